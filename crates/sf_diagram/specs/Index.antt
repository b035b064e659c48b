-- How a store finds the nodes that it has: each node is linked to the last older one of the same hash.
use Rattle.std.specs.Prelude.{◌≡◌, ◌≢◌, ℕ, suc, ◌+◌, ◌*◌, ◌%◌, ◌<◌, ◌≤◌, List, length, map, slice_index, slice_index_or}
use Rattle.sf_diagram.specs.Nodes.{stored_node}
use Rattle.sf_diagram.specs.declared.index.Interned.{Interned}
use Rattle.sf_diagram.specs.declared.index.Node.{Node}
use Rattle.sf_diagram.specs.declared.index.Node.TheVariants.{Number, Choice}

-- equal nodes have the same hash, the number of a bucket
abbrev pub bucket_of : ℕ → Node → ℕ
bucket_of buckets (Number number) = number % buckets
bucket_of buckets (Choice variable lower higher) =
    (variable * 65599 + lower * 12582917 + higher * 4256249) % buckets

-- the nodes, without their links
abbrev pub nodes_of : List Interned → List Node
nodes_of es = map (λ e. e.node) es

-- where the last older node of the same hash stands, counted from 1; 0 where there is none
abbrev pub link_behind : List Interned → ℕ → ℕ
link_behind es i = (slice_index_or es i (record { node = Number 0; link = 0 })).link

-- Of the first n nodes the last one with this hash stands at place c - 1; where c is 0, none has it.
pub record IsLastInBucket (buckets : ℕ) (ns : List Node) (n hash c : ℕ) : Type 0 where
  pub within : c ≤ n
  pub here : (i : ℕ) → c ≡ suc i → bucket_of buckets (stored_node ns i) ≡ hash
  pub after : (i : ℕ) → c ≤ i → i < n → bucket_of buckets (stored_node ns i) ≢ hash

-- each node has a link to the last older one of its hash
abbrev pub AreChained : ℕ → List Interned → Type 0
AreChained buckets es = (i : ℕ) → i < length es → IsLastInBucket buckets (nodes_of es) i
    (bucket_of buckets (stored_node (nodes_of es) i)) (link_behind es i)

-- nodes are linked, and `heads` has for each hash the place of its last node, counted from 1, or 0 where no node has it
pub record IsInBuckets (es : List Interned) (heads : List ℕ) : Type 0 where
  pub some : 0 < length heads
  pub linked : AreChained (length heads) es
  pub last : (hash : ℕ) → hash < length heads
      → IsLastInBucket (length heads) (nodes_of es) (length es) hash (slice_index heads hash)
