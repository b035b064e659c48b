use Rattle.sf_ask.proofs.Common.{◌≡◌, ℕ, ◌<◌, length, has_bit, IsRightWhereGiven, is_skipped, verdict_at}
use Rattle.std.specs.Prelude.{not}
use Rattle.sf_ask.proofs.sheet.verdicts_on.Given as goal

abbrev pub invariant-loop-q : goal.invariant-loop-q
invariant-loop-q l = record {
  long : length l.verdicts.items ≡ l.q;
  right : (q : ℕ) → q < l.q → IsRightWhereGiven l.settled l.questions l.job q (verdict_at l.verdicts.items q);
  wanted : (q : ℕ) → q < l.q → is_skipped (verdict_at l.verdicts.items q) ≡ not (has_bit l.wanted q);
}
