use Rattle.sf_diagram.proofs.Common.{◌≡◌, ◌≢◌, ℕ, suc, ◌+◌, ◌<◌, ◌≤◌, List, [], ◌∷◌, ◌++◌, length, get_or, set, arith, get_or_append_left, get_or_push, length-map, map-append, length_push, get_or-set_same, get_or-set_other, length-set, eq-or-lt_of_le, cases_order, stored_node, bucket_of, nodes_of, IsInBuckets, Interned, Node}

pub length-nodes : (es : List Interned) → length (nodes_of es) ≡ length es
length-nodes es = length-map es (λ e. e.node)

pub nodes-push : (es : List Interned) (e : Interned) → nodes_of (es ++ e ∷ []) ≡ nodes_of es ++ e.node ∷ []
nodes-push es e = map-append (λ x. x.node) es (e ∷ [])

pub IsInBuckets-push : (es : List Interned) (heads : List ℕ) (e : Interned) → IsInBuckets es heads
    → e.link ≡ get_or heads (bucket_of (length heads) e.node) 0 → bucket_of (length heads) e.node < length heads
    → IsInBuckets (es ++ e ∷ []) (set heads (bucket_of (length heads) e.node) (length es + 1))
IsInBuckets-push es heads e old last small =
    search (
      arith,
      length_push,
      nodes-push,
      get_or_append_left,
      length-nodes,
      get_or_push,
      length-set,
      eq-or-lt_of_le,
      cases_order,
      get_or-set_same,
      get_or-set_other,
    )

-- a node is looked for below place c: it isn't from there on, and what is there has its hash
pub record IsSearched (buckets : ℕ) (ns : List Node) (node : Node) (c : ℕ) : Type 0 where
  pub within : c ≤ length ns
  pub here : (i : ℕ) → c ≡ suc i → bucket_of buckets (stored_node ns i) ≡ bucket_of buckets node
  pub absent : (i : ℕ) → c ≤ i → i < length ns → stored_node ns i ≢ node
