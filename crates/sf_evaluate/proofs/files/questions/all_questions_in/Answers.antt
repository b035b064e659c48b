use Rattle.sf_evaluate.proofs.Common.{◌≡◌, ◌∙◌, arith, fun_ext, handed_on, length, sym}
use Rattle.sf_evaluate.proofs.FailureLemmas.{refused_named}
use Rattle.sf_evaluate.proofs.files.questions.AskedLemmas.{asking_why, one_asked, one_placed}
use Rattle.sf_evaluate.proofs.files.identity.IdentityLemmas.{one_shown}
use Rattle.sf_evaluate.proofs.files.questions.all_questions_in.Goals as goal

pub loop-path-preserved : goal.loop-path-preserved
loop-path-preserved g c =
    let so_far = c.loop-path.invariant in
    let inside = c.loop-path-test.true in
    let meant = rw (fun_ext so_far.same) at c.in_ok-questions.ensures.asked in
    let grown = c.in_ok-append.ensures.items in
    let stand = c.in_ok-push_origins.ensures in
    let many : c.len.result ≡ length c.in_ok-questions.questions.items =
    omega (arith, c.len.ensures, c.in_ok-questions.questions.ok.0) in
    record {
      asked = one_asked _ _ _ _ _ _ inside meant grown so_far.asked;
      placed = one_placed _ _ _ _ _ _ inside meant grown _ _ _ _ (λ told. rw many at (stand.1 told)) stand.2 stand.3
          so_far.placed;
      shown = one_shown _ _ _ _ _ _ _ _ so_far.shown inside
          (rw (fun_ext so_far.same, sym c.deref.ensures.value) at c.in_ok-questions.ensures.kept)
          c.in_ok-push_file.ensures;
      same = λ p. c.questions_in.ensures.same p ∙ so_far.same p;
    }

pub returns-in_err-questions-clause-failed : goal.returns-in_err-questions-clause-failed
returns-in_err-questions-clause-failed g c =
    handed_on _ c.from_residual.result c.in_err-questions.field-0.0 c.from_residual.ensures.1
    (refused_named _ _ _ _ _ _ _ c.loop-path-test.true c.in_err-questions.ensures.failed _ (λ why. why)
    (rw (fun_ext c.loop-path.invariant.same) at c.in_err-questions.ensures.refused))

pub returns-in_err-questions-clause-refused : goal.returns-in_err-questions-clause-refused
returns-in_err-questions-clause-refused g c =
    handed_on _ c.from_residual.result c.in_err-questions.field-0.0 c.from_residual.ensures.1
    (asking_why _ _ _ _ (refused_named _ _ _ _ _ _ _ c.loop-path-test.true c.in_err-questions.ensures.failed _
    (λ why. why) (rw (fun_ext c.loop-path.invariant.same) at c.in_err-questions.ensures.refused)))
