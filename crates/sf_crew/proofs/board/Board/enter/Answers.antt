use Rattle.sf_crew.proofs.Common.{◌≡◌, ◌<◌, List, [], Some, subst, sym, ap, ◌∙◌, arith, View, Note, entered_sheet, Covered, view_of, AreDoubts, about}
use Rattle.sf_crew.proofs.board.Moves.{enters}
use Rattle.sf_crew.proofs.board.Sheets.{covers, marked_view}
use Rattle.sf_crew.proofs.board.Board.enter.Goals as goal

pub fetch_add-requires : goal.fetch_add-requires
fetch_add-requires c =
    let hits = c.enter_hits.ensures in let doubts = c.enter_doubts.ensures in
    let v : View = c.args.seat.now.seat.me.0 in let w : View = c.enter_doubts.new.seat.me.0 in
    let notes : List Note = c.enter_hits.new.seat.me.0.notes in
    let is : w ≡ view_of v.about v.joined_seats v.exhausted_seats v.owes w.marked v.entered_sheets notes =
    marked_view v _ w hits.view doubts.view in
    let owing : w.owes ≡ Some c.args.sheet.job = ap (λ (y : View). y.owes) is ∙ c.requires.sheet.job in
    let joined_seats : w.joined_seats ≡ v.joined_seats = ap (λ (y : View). y.joined_seats) is in
    let some_part : 0 < v.joined_seats = c.args.seat.now.present in let small = c.args.self.now.small in
    let none : c.enter_hits.new.seat.me.0.marked ≡ [] = search arith in
    let marks : AreDoubts c.args.sheet w.marked = rw none at doubts.marks in
    let covered : Covered (about c.args.self.now) notes (entered_sheet c.args.sheet.job w.marked) =
    search (arith, covers) in (
      doubts.table ∙ hits.table ∙ c.requires.seat.0,
      omega arith,
      enters _ _ _ _ _ owing (omega (arith, joined_seats, some_part)) (omega (arith, small))
          (subst (λ (ns : List Note). Covered (about c.args.self.now) ns (entered_sheet c.args.sheet.job w.marked))
          (sym (ap (λ (y : View). y.notes) is)) covered),
    )
