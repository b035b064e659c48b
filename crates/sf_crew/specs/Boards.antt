-- A board and its seats, as contracts see them.
use Rattle.std.specs.Prelude.{◌≡◌, Some, None, []}
use Rattle.sf_crew.specs.Common.{TableId, BoardKey, View}
use Rattle.sf_crew.specs.declared.board.Board.{Board}
use Rattle.sf_crew.specs.declared.board.Seat.{Seat}
use Rattle.sf_crew.specs.BoardSteps.{view_of}

-- the regions and questions that a board is about
abbrev pub about : Board → BoardKey
about b = b.table.shared.key

-- which board it is, among all that there are
abbrev pub board_id : Board → TableId
board_id b = b.table.shared.table_id

-- what a seat has drawn, entered and seen
abbrev pub seat_view : Seat → View
seat_view s = s.seat.me.0

-- the seat belongs to this board, and is about the same regions and questions
abbrev pub IsSeatOf : Board → Seat → Type 0
IsSeatOf b s = (s.seat.table_id ≡ board_id b) × ((seat_view s).about ≡ Some (about b))

-- a seat that has drawn, entered and seen nothing
abbrev pub IsNewSeat : Board → Seat → Type 0
IsNewSeat b s = IsSeatOf b s × (seat_view s ≡ view_of (Some (about b)) 1 0 None [] [] [])
