-- What a tree says of inputs that agree.
use Rattle.std.proofs.Common.{ℕ, suc, refl, arith}
use Rattle.sf_diagram.specs.Trees.{Tree, Leaf, Fork, value, IsOrderedFrom}
use Rattle.sf_diagram.specs.Tasks.{AreFrom}

-- no variable below n matters to a tree that is ordered from n on
pub value_from : (t : Tree) (n : ℕ) → IsOrderedFrom n t → AreFrom n (value t)
value_from (Leaf c) n o x y same = refl
value_from (Fork v p q) n o x y same =
    rw (
      same v o.0,
      value_from p (suc v) o.1 x y (λ w l. same w (omega (arith, o.0, l))),
      value_from q (suc v) o.2 x y (λ w l. same w (omega (arith, o.0, l))),
    ) refl
