use Rattle.sf_crew.proofs.Common.{◌≡◌, ◌<◌, ℕ, ◌+◌, List, ◌∷◌, length, Some, sym, ap, ◌∙◌, refl, arith, QuestionData, View, questions_of, view_with_mark, MarksDoubts, about}
use Rattle.sf_crew.proofs.board.Sheets.{marks_same, marks_more}
use Rattle.sf_crew.proofs.board.Moves.{marks}
use Rattle.sf_crew.proofs.board.Board.enter_doubts.Goals.{then-is_doubt, else-is_doubt}
use Rattle.sf_crew.proofs.board.Board.enter_doubts.Goals as goal

pub loop-q-preserved : goal.loop-q-preserved
loop-q-preserved c =
    let n : ℕ = c.loop-q.q in let i = c.loop-q.invariant in let vs = c.args.sheet.now.verdicts in
    elim c.if-is_doubt.branch [
      | then-is_doubt w ↦ (
          let f = w.fetch_or in let went = f.ensures.2 in let old : View = c.loop-q.seat.me.0 in
          let now : f.new.seat.me.0 ≡ view_with_mark old n = went.0 n (omega arith) refl in
          let marks : MarksDoubts vs (n + 1) c.args.seat.now.me.0.marked (n ∷ old.marked) =
          marks_more vs n _ _ (sym c.is_doubt.ensures ∙ w.if-is_doubt.true) i.marks in
          rw w.seat-is (search (arith, marks))
          )
      | else-is_doubt w ↦ rw w.seat-is (search (arith, marks_same, marks))
    ]

pub fetch_or-requires : goal.fetch_or-requires
fetch_or-requires c =
    let n : ℕ = c.loop-q.q in
    let lt : n < length c.args.sheet.now.questions =
    omega (arith, c.loop-q-test.true, c.question_count-q-end.ensures.count) in
    let many : length c.args.sheet.now.questions ≡ length (questions_of (about c.args.self.now)) =
    ap (λ (y : List QuestionData). length y) c.requires.questions in
    let few : n < 256 = (let f = c.args.self.now.few in omega arith) in
    let owing : c.loop-q.seat.me.0.owes ≡ Some c.args.sheet.now.job =
    ap (λ (v : View). v.owes) c.loop-q.invariant.view ∙ c.requires.owes in (
      c.loop-q.invariant.table ∙ c.requires.table,
      omega (arith, lt, many),
      marks _ _ n _ _ _ owing few,
    )
