use Rattle.std.proofs.Common.{◌≡◌, None}
use Rattle.sf_crew.specs.Boards.{seat_view, IsSeatOf}
use Rattle.crew_tests.proofs.board.draw_all.Given as goal

abbrev pub invariant-loop-turn : goal.invariant-loop-turn
invariant-loop-turn l = record { seat : IsSeatOf l.board l.seat; free : (seat_view l.seat).owes ≡ None }
