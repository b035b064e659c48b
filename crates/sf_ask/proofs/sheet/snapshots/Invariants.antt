use Rattle.sf_ask.proofs.Common.{◌≡◌, ◌≤◌, length, map, take, vec_len, vec_capacity}
use Rattle.sf_ask.proofs.sheet.snapshots.Given as goal

abbrev pub invariant-loop-question : goal.invariant-loop-question
invariant-loop-question l = record {
  each : map (λ q. q.value) l.all.items ≡ take l.question-index l.questions;
  count : vec_len l.all ≡ l.question-index;
  room : length l.questions ≤ vec_capacity l.all;
}
