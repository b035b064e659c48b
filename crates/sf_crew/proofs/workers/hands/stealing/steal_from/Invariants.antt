use Rattle.sf_crew.proofs.Common.{◌≡◌, length, thief_views}
use Rattle.sf_crew.proofs.workers.hands.stealing.steal_from.Given as goal

abbrev pub invariant-loop-place : goal.invariant-loop-place
invariant-loop-place g l = record {
  same : thief_views l.others ≡ thief_views l.fn.others;
  long : length l.others ≡ length l.fn.others;
}
