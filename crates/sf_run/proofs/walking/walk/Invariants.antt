use Rattle.sf_run.proofs.Common.{◌≡◌, ◌+◌, ◌-◌, ◌≤◌, ℕ, Some, length, state_of, IsReachable, CourseData, after, walk_for, walk_of}
use Rattle.sf_run.proofs.walking.walk.Given as goal

abbrev pub invariant-steps : goal.invariant-steps
invariant-steps l = record {
  safe : IsReachable l.code (state_of l.place l.machine);
  left : ℕ;
  enough : length l.code ≤ left + l.place;
  same : (w : CourseData) → walk_for left l.code l.fn.input l.word (state_of l.place l.machine) ≡ Some w
      → walk_of l.code l.fn.input ≡ Some (after l.met.items w);
}

abbrev pub decreases-steps : goal.decreases-steps
decreases-steps l = length l.code - l.place
