use Rattle.sf_crew.proofs.Common.{◌≡◌, ◌≤◌, sym, ◌∙◌, arith, ltb-false}
use Rattle.sf_crew.proofs.board.Draws.{draws}
use Rattle.sf_crew.proofs.board.Board.draw.Goals as goal

pub fetch_add-found-requires : goal.fetch_add-found-requires
fetch_add-found-requires c =
    let none : c.args.seat.now.seat.me.0.exhausted_seats ≤ 0 =
    ltb-false 0 _ (sym c.args.seat.now.ended ∙ c.if-seat.false) in
    let fresh : c.args.seat.now.seat.me.0.exhausted_seats ≡ 0 = omega arith in (
      c.requires.seat.0,
      omega arith,
      draws _ _ _ _ c.requires.seat.1 c.requires.free fresh c.args.seat.now.present c.args.self.now.small,
    )
