use Rattle.sf_piece.proofs.Common.{arith}
use Rattle.sf_piece.proofs.name.Spelled.{with_run}
use Rattle.sf_piece.proofs.name.add_runs.Goals as goal

pub loop-place-preserved : goal.loop-place-preserved
loop-place-preserved c =
    rw (c.in_ok-push.ensures.items, c.in_ok-add_falses.ensures, c.get.ensures c.get.result)
    (with_run c.args.runs.now c.loop-place.place c.get.result _ _ (omega arith) c.loop-place.invariant)
