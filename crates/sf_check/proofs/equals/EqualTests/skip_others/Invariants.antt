use Rattle.sf_check.proofs.Common.{◌≤◌, ◌<◌, ◌-◌, length, AreSkipped}
use Rattle.sf_check.proofs.equals.EqualTests.skip_others.Given as goal

abbrev pub invariant-loop-next : goal.invariant-loop-next
invariant-loop-next l = record {
  skipped : AreSkipped l.insns l.number l.count l.fn.place l.behind;
  inside : l.behind < length l.insns;
  few : l.count ≤ l.behind;
}

abbrev pub decreases-loop-next : goal.decreases-loop-next
decreases-loop-next l = length l.insns - l.behind
