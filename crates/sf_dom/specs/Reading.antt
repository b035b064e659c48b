-- What stands in the lists of facts: what is known of a node, and what is excluded for it.
use Rattle.std.specs.Prelude.{ℕ, List, slice_index_or}
use Rattle.sf_dom.specs.Common.{Node, Word, Known}

-- what is known of the node at a place
abbrev pub known_at : List Known → ℕ → Known
known_at ks i = slice_index_or ks i (record { low = 0; high = 0; zeros = 0; ones = 0 })

-- the set of the numbers that are excluded for a word
abbrev pub numbers_at : List ℕ → ℕ → ℕ
numbers_at ex i = slice_index_or ex i 0

-- the set of the numbers that are excluded for a node: those of a word, and none for any other node
abbrev pub excluded_of : List ℕ → Node → ℕ
excluded_of ex (Word i) = numbers_at ex i
excluded_of ex _ = 0
