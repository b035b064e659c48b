-- When nothing more goes back from a node to its operand beside a constant.
use Rattle.std.specs.Prelude.{◌≡◌, ℕ, zero, suc, List, IfSome}
use Rattle.sf_dom.specs.Common.{node_at, IsSwappable, constant_operand_of, Node, Known}
use Rattle.sf_dom.specs.GoingBack.{gained}
use Rattle.sf_dom.specs.Reading.{known_at}

-- Where a node is an AND, OR or XOR of an operand and a constant, that operand gains nothing from the node's known
-- bits; and likewise for the operand in turn, n times in all.
abbrev pub IsPropagatedBack : ℕ → List Known → List Node → ℕ → Type 0
IsPropagatedBack zero ks ns at = Unit {0}
IsPropagatedBack (suc n) ks ns at =
    IfSome (constant_operand_of ns (node_at ns at)) (λ o. IsSwappable o.0
    → (gained o.0 o.2 (known_at ks at) (known_at ks o.1) ≡ known_at ks o.1) × IsPropagatedBack n ks ns o.1)
