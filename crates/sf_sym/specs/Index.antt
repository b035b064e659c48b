-- How a pool finds the nodes that it has: each node is linked to the last older one of the same hash.
use Rattle.std.specs.Prelude.{◌≡◌, ◌≢◌, ℕ, suc, ◌+◌, ◌*◌, ◌%◌, ◌<◌, ◌≤◌, List, length, map, slice_index, slice_index_or}
use Rattle.sf_sym.specs.Pool.{node_at}
use Rattle.sf_sym.specs.Common.{Interned, Node, Const, Word, Bin, Neg}

-- equal nodes have the same hash, a number below 127
abbrev pub hash_of : Node → ℕ
hash_of (Const c) = c % 127
hash_of (Word i) = i % 127
hash_of (Bin op a b) = (a.0 % 127 * 31 + b.0 % 127 * 7) % 127
hash_of (Neg a) = (a.0 % 127 + 5) % 127

-- the nodes, without their links
abbrev pub nodes_of : List Interned → List Node
nodes_of es = map (λ e. e.node) es

-- where the last older node of the same hash stands, counted from 1; 0 where there is none
abbrev pub link_at : List Interned → ℕ → ℕ
link_at es i = (slice_index_or es i (record { node = Const 0; link = 0 })).link

-- Of the first n nodes the last one with this hash stands at place c - 1; where c is 0, none has it.
pub record IsLastWithHash (ns : List Node) (n hash c : ℕ) : Type 0 where
  pub within : c ≤ n
  pub here : (i : ℕ) → c ≡ suc i → hash_of (node_at ns i) ≡ hash
  pub after : (i : ℕ) → c ≤ i → i < n → hash_of (node_at ns i) ≢ hash

-- each node has a link to the last older one of its hash
abbrev pub AreLinked : List Interned → Type 0
AreLinked es = (i : ℕ) → i < length es → IsLastWithHash (nodes_of es) i
    (hash_of (node_at (nodes_of es) i)) (link_at es i)

-- nodes are linked, and `heads` has for each hash the place of its last node, counted from 1, or 0 where no node has it
pub record IsIndexed (es : List Interned) (heads : List ℕ) : Type 0 where
  pub buckets : length heads ≡ 127
  pub linked : AreLinked es
  pub last : (hash : ℕ) → hash < 127 → IsLastWithHash (nodes_of es) (length es) hash (slice_index heads hash)
