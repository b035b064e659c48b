-- Variables: the nodes that aren't kept as a number, each with its place in the pool and with what is known of it.
use Rattle.std.specs.Prelude.{ℕ, List, set, slice_index_or}
use Rattle.sf_dom.specs.Common.{Known, Variable}
use Rattle.sf_dom.specs.Known.{known_of}

-- the variable at a place of their list
abbrev pub variable_at : List Variable → ℕ → Variable
variable_at os r = slice_index_or os r (record { place = 0; known = known_of 0 0 0 0 })

-- the variables, where this is now known of the one at a place of their list
abbrev pub set_known : List Variable → ℕ → Known → List Variable
set_known os r x = set os r (record { place = (variable_at os r).place; known = x })
