use Rattle.sf_ask.proofs.Common.{sym, ◌∙◌}
use Rattle.sf_ask.proofs.probe.ProbeLemmas.{one-call-more, other-more}
use Rattle.sf_ask.proofs.probe.probes_of.Goals.{then-has_one_call+in_ok-push, else-has_one_call+in_ok-push-2}
use Rattle.sf_ask.proofs.probe.probes_of.Goals as goal

pub loop-place-preserved : goal.loop-place-preserved
loop-place-preserved c =
    let i = c.loop-place.invariant in
    let e = c.of-probe.ensures in
    elim c.if-has_one_call.branch [
      | then-has_one_call+in_ok-push w ↦ rw (w.by_call-is, w.others-is, w.in_ok-push.ensures.items)
          (one-call-more c.args.questions.now c.loop-place.place c.loop-place.by_call.items c.loop-place.others.items
          c.of-probe.result e.place e.probe (sym c.has_one_call.ensures ∙ w.if-has_one_call.true) i)
      | else-has_one_call+in_ok-push-2 w ↦ rw (w.by_call-is, w.others-is, w.in_ok-push-2.ensures.items)
          (other-more c.args.questions.now c.loop-place.place c.loop-place.by_call.items c.loop-place.others.items
          c.of-probe.result e.place e.probe (sym c.has_one_call.ensures ∙ w.if-has_one_call.false) i)
    ]
