use Rattle.sf_ask.proofs.Common.{◌≡◌, ℕ, false, arith, subst, All, take_all, has_bit, IsRuledOutIfAsked, Probe}
use Rattle.sf_ask.proofs.probe.ProbeLemmas.{no_probe, added-more, bit-kept, bit-set}
use Rattle.sf_ask.proofs.probing.add_questions_left.Goals.{then-is_left_to_judge, else-is_left_to_judge}
use Rattle.sf_ask.proofs.probing.add_questions_left.Goals as goal

pub loop-probe-preserved : goal.loop-probe-preserved
loop-probe-preserved c =
    let i = c.loop-probe.invariant in
    let P : ℕ → Type 0 = IsRuledOutIfAsked c.args.facts.now c.args.questions.now c.args.action in
    elim c.if-is_left_to_judge.branch [
      | then-is_left_to_judge w ↦
          let kept = λ (q : ℕ). bit-kept c.loop-probe.left w.set_bit.new.bits _ q w.set_bit.ensures in
          rw w.left-is (record {
            added = added-more P c.args.probes.now c.loop-probe.left w.set_bit.new.bits c.loop-probe.probe-index
                no_probe c.loop-probe-test.true kept i.added
                (λ none. absurd (bit-set c.loop-probe.left w.set_bit.new.bits _ w.set_bit.ensures none));
            kept = λ q none. i.kept q (kept q none);
          })
      | else-is_left_to_judge w ↦
          rw w.left-is (record {
            added = added-more P c.args.probes.now c.loop-probe.left c.loop-probe.left c.loop-probe.probe-index
                no_probe c.loop-probe-test.true (λ q none. none) i.added
                (λ none. c.is_left_to_judge.ensures w.if-is_left_to_judge.false);
            kept = i.kept;
          })
    ]

pub returns-clause-added : goal.returns-clause-added
returns-clause-added c =
    let P : Probe → Type 0 = λ p. has_bit c.loop-probe.left p.question ≡ false
    → IsRuledOutIfAsked c.args.facts.now c.args.questions.now c.args.action p.question in
    subst (All P) (take_all c.loop-probe.probe-index c.args.probes.now (omega arith)) c.loop-probe.invariant.added
