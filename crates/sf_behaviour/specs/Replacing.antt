-- Diagrams in which a number stands in the place of a register.
use Rattle.std.specs.Prelude.{◌≡◌, ℕ, ◌<◌, List, length, Some}
use Rattle.sf_behaviour.specs.Common.{BTreeMap, get, nat_cmp, Tree, Bits, value, tree_at}
use Rattle.sf_behaviour.specs.Registers.{with_register}

-- the second diagram has the value of the first where the register has this number
pub record IsReplaced (r : ℕ) (ts : List Tree) (number : Bits → ℕ) (id new : ℕ) : Type 0 where
  pub id_within : id < length ts
  pub within : new < length ts
  pub values : (bits : Bits) → value (tree_at ts new) bits ≡ value (tree_at ts id) (with_register r (number bits) bits)

-- the map has for diagrams such others
pub record AreReplaced (r : ℕ) (ts : List Tree) (number : Bits → ℕ) (made : BTreeMap ℕ ℕ) : Type 0 where
  pub each : (id new : ℕ) → get nat_cmp made id ≡ Some new → IsReplaced r ts number id new
