use Rattle.sf_crew.proofs.Common.{◌≡◌, ◌+◌, ◌-◌, ap, arith}
use Rattle.sf_crew.proofs.board.Joins.{splits}
use Rattle.sf_crew.proofs.board.Board.deal.Goals as goal

pub split_seat-other-requires : goal.split_seat-other-requires
split_seat-other-requires c =
    let i = c.loop-given.invariant in
    let joined_seats : c.loop-given.seat.me.0.joined_seats ≡ c.args.seats + 1 - c.loop-given.given =
    ap (λ y. y.0.joined_seats) i.me in (
      i.table,
      omega arith,
      splits _ _ _ (omega (arith, joined_seats, c.loop-given-test.true)) (ap (λ y. y.0.exhausted_seats) i.me)
          (ap (λ y. y.0.about) i.me),
    )
