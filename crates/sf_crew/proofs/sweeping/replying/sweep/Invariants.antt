use Rattle.sf_crew.proofs.Common.{◌≡◌, ℕ, length, Some, slice_get, Reply, IsRightReplyAt}
use Rattle.sf_crew.proofs.sweeping.replying.sweep.Given as goal

abbrev pub invariant-loop-q : goal.invariant-loop-q
invariant-loop-q g l = record {
  count : length l.replies.items ≡ l.q;
  each : (q : ℕ) (reply : Reply) → slice_get l.replies.items q ≡ Some reply
      → IsRightReplyAt l.settled l.questions q reply;
}
