use Rattle.std.proofs.Common.{◌≡◌, ◌<◌, ℕ, false}
use Rattle.sf_ask.specs.Sheets.{is_skipped, verdict_at}
use Rattle.crew_tests.proofs.board.is_whole.Given as goal

abbrev pub invariant-loop-q : goal.invariant-loop-q
invariant-loop-q l = (p : ℕ) → p < l.q → is_skipped (verdict_at l.sheet.verdicts p) ≡ false
