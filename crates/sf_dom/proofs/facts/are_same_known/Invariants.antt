use Rattle.sf_dom.proofs.Common.{◌≡◌, ℕ, ◌<◌, known_at}
use Rattle.sf_dom.proofs.facts.are_same_known.Given as goal

abbrev pub invariant-loop-i : goal.invariant-loop-i
invariant-loop-i l = record { same : (k : ℕ) → k < l.i → known_at l.left.known k ≡ known_at l.right.known k }
