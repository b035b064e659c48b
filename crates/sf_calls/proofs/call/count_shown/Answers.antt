use Rattle.sf_calls.proofs.Common.{common_steps, arith}
use Rattle.sf_calls.proofs.call.ArgumentLemmas.{count_shown-take}
use Rattle.sf_calls.proofs.call.count_shown.Goals.{then-argument-ne0, else-argument-ne0}
use Rattle.sf_calls.proofs.call.count_shown.Goals as goal

pub loop-place-preserved : goal.loop-place-preserved
loop-place-preserved c =
    let more = count_shown-take c.args.arguments.now c.loop-place.place c.loop-place-test.true in
    elim c.if-argument-ne0.branch [
      | then-argument-ne0 w ↦ record { count = grind (arith, common_steps); few = omega (arith, w.count-is) }
      | else-argument-ne0 w ↦ record {
        count = grind (arith, common_steps);
        few = omega (arith, w.count-is, c.loop-place.invariant.few);
      }
    ]
