-- Whether a list of truth values begins with a name, as a number that can be added up.
use Rattle.std.proofs.Common.{ℕ, Bool, cond, List}
use Rattle.sf_book.specs.Common.{is_prefix}

-- 1 for true
abbrev pub bit : Bool → ℕ
bit b = cond b 1 0

-- 1 where the list begins with the name
abbrev pub prefix_bit : List Bool → List Bool → ℕ
prefix_bit n t = bit (is_prefix n t)
