use Rattle.sf_piece.proofs.Common.{◌+◌, common_steps, arith}
use Rattle.sf_piece.proofs.Joined.{on_trans}
use Rattle.sf_piece.proofs.FailingSteps.{goes_more}
use Rattle.sf_piece.proofs.work.last_step.Goals as goal

pub loop-last-preserved : goal.loop-last-preserved
loop-last-preserved c =
    let h = rw c.in-On.is at c.in_ok-last.ensures.step in
    let goes = c.loop-last.invariant.goes in
    let rule = rw c.in-On.is at (c.in_ok-last.ensures.rule c.forced_results_are_learnt.ensures) in
    record {
      is_on = on_trans _ _ _ c.loop-last.invariant.is_on h.0.is_on;
      lawful = h.1;
      goes = (goes.0 + rule.0, goes_more goes.0 rule.0 _ _ _ goes.1 rule.1);
    }

pub returns-in_default : goal.returns-in_default
returns-in_default c = grind (arith, common_steps)
