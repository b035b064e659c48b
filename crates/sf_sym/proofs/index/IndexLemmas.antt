use Rattle.sf_sym.proofs.Common.{◌≡◌, ◌≢◌, ℕ, suc, ◌+◌, ◌<◌, ◌≤◌, List, [], ◌∷◌, ◌++◌, length, get_or, set, replicate, sym, ap, ◌∙◌, arith, get_or_append_left, get_or_push, get_or-map, length-map, map-append, length_push, get_or-set_same, get_or-set_other, length-set, get_or-replicate, length-replicate, eq-or-lt_of_le, cases_order, node_at, hash_of, nodes_of, IsLastWithHash, IsIndexed, Interned, Node, Const}

abbrev pub blank : Interned
blank = record { node = Const 0; link = 0 }

pub length-nodes : (es : List Interned) → length (nodes_of es) ≡ length es
length-nodes es = length-map es (λ e. e.node)

-- the node that was read with its link
pub node-read : (es : List Interned) (i : ℕ) (e : Interned) → i < length es → e ≡ get_or es i blank
    → node_at (nodes_of es) i ≡ e.node
node-read es i e h r = get_or-map (λ x. x.node) es i blank (Const 0) h ∙ ap (λ x. x.node) (sym r)

pub nodes-push : (es : List Interned) (e : Interned) → nodes_of (es ++ e ∷ []) ≡ nodes_of es ++ e.node ∷ []
nodes-push es e = map-append (λ x. x.node) es (e ∷ [])

-- no nodes, and no heads
pub IsIndexed-none : IsIndexed [] (replicate 127 0)
IsIndexed-none = record {
  buckets = length-replicate {A = ℕ} 127 0;
  linked = λ i l. absurd (omega arith);
  last = λ hash l. rw (get_or-replicate {A = ℕ} 127 hash 0 0 l) (record {
    within = omega arith;
    here = λ i e. absurd (omega arith);
    after = λ i a l. absurd (omega arith);
  });
}

pub IsIndexed-push : (es : List Interned) (heads : List ℕ) (e : Interned) → IsIndexed es heads
    → e.link ≡ get_or heads (hash_of e.node) 0 → hash_of e.node < 127
    → IsIndexed (es ++ e ∷ []) (set heads (hash_of e.node) (length es + 1))
IsIndexed-push es heads e old last small =
    search (
      arith,
      length_push,
      nodes-push,
      get_or_append_left,
      length-nodes,
      get_or_push,
      length-set,
      eq-or-lt_of_le,
      cases_order,
      get_or-set_same,
      get_or-set_other,
    )

-- a node is looked for below place c: it isn't from there on, and what is there has its hash
pub record IsSearched (ns : List Node) (node : Node) (c : ℕ) : Type 0 where
  pub within : c ≤ length ns
  pub here : (i : ℕ) → c ≡ suc i → hash_of (node_at ns i) ≡ hash_of node
  pub absent : (i : ℕ) → c ≤ i → i < length ns → node_at ns i ≢ node

pub IsSearched-step : (ns : List Node) (node : Node) (p link : ℕ) → IsSearched ns node (p + 1) → node_at ns p ≢ node
    → IsLastWithHash ns p (hash_of (node_at ns p)) link → IsSearched ns node link
IsSearched-step ns node p link s other l = search (arith, cases_order)
