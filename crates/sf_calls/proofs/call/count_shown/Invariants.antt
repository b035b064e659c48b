use Rattle.sf_calls.proofs.Common.{◌≡◌, ◌≤◌, take, count_shown}
use Rattle.sf_calls.proofs.call.count_shown.Given as goal

abbrev pub invariant-loop-place : goal.invariant-loop-place
invariant-loop-place l = record {
  count : l.count ≡ count_shown (take l.place l.arguments);
  few : l.count ≤ l.place;
}
