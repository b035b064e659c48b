use Rattle.sf_crew.proofs.Common.{◌≡◌, ◌<◌, ℕ, List, length, subst, sym, ap, ◌∙◌, arith, BookData, QuestionData, HasHit, questions_of, count_of_regions, about, hit-given}
use Rattle.sf_crew.proofs.board.Moves.{hits}
use Rattle.sf_crew.proofs.board.Board.enter_hits.Goals as goal

pub fetch_min-requires : goal.fetch_min-requires
fetch_min-requires c =
    let right = c.question_count-q-end.ensures.right in let n : ℕ = c.loop-q.q in
    let lt : n < length c.args.sheet.now.questions =
    omega (arith, c.loop-q-test.true, c.question_count-q-end.ensures.count) in
    let many : length c.args.sheet.now.questions ≡ length (questions_of (about c.args.self.now)) =
    ap (λ (y : List QuestionData). length y) c.requires.same.1 in
    let breaks : HasHit c.args.sheet.now.settled c.args.sheet.now.questions c.args.sheet.now.job n =
    search (arith, hit-given) in
    let below : c.args.sheet.now.job < count_of_regions (about c.args.self.now) =
    subst (λ (y : BookData). c.args.sheet.now.job < length y.regions) c.requires.same.0 right.there in (
      c.loop-q.invariant.table ∙ c.requires.table,
      omega (arith, lt, many),
      hits _ _ _ n _ _ (omega (arith, lt, many)) (omega (arith, below, c.job-job.ensures.job))
          (subst (λ (y : BookData × List QuestionData × ℕ). HasHit y.0 y.1 y.2 n)
          (λ i. (c.requires.same.0 i, c.requires.same.1 i, sym c.job-job.ensures.job i)) breaks),
    )
