use Rattle.sf_crew.proofs.Common.{◌≡◌, Some, sym, ap, ◌∙◌, subst, arith, View, Knows, about}
use Rattle.sf_crew.proofs.board.Joins.{joins, glances}
use Rattle.sf_crew.proofs.board.Board.join.Goals as goal

pub join_seat-requires : goal.join_seat-requires
join_seat-requires c = search (arith, joins)

pub load-requires : goal.load-requires
load-requires c =
    let is : c.join_seat.new.seat.me.0.about ≡ Some (about c.args.self.now) =
    ap (λ m. m.0.about) c.join_seat.ensures.2 ∙ c.requires.seats.0.1 in
    (c.join_seat.ensures.0 ∙ c.requires.seats.0.0, omega arith, glances _ _ _ _ is)

pub returns-clause-once : goal.returns-clause-once
returns-clause-once c = let met = c.load.ensures.2 in
    subst (λ (v : View). Knows v) (sym (ap (λ m. m.0) met.0)) met.1
