use Rattle.sf_ask.proofs.Common.{◌≡◌, ℕ, false, All, has_bit, IsRuledOutIfAsked, Probe}
use Rattle.std.specs.Prelude.{take}
use Rattle.sf_ask.proofs.probing.add_questions_left.Given as goal

abbrev pub invariant-loop-probe : goal.invariant-loop-probe
invariant-loop-probe l = record {
  added : All (λ (p : Probe). has_bit l.left p.question ≡ false
      → IsRuledOutIfAsked l.facts l.questions l.action p.question) (take l.probe-index l.probes);
  kept : (q : ℕ) → has_bit l.left q ≡ false → has_bit l.initial.left q ≡ false;
}
