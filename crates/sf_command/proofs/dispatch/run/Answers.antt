use Rattle.sf_command.proofs.Common.{Some, inl, inr, refl, IfErr-weaker, IfOk-weaker, found_of, rows_of, subcommand_rows_of, joined, handed_on, Other}
use Rattle.sf_command.proofs.dispatch.CommandLineLemmas.{done_as, profile_ran, profile_words, refused_as}
use Rattle.sf_command.proofs.dispatch.run.Goals as goal

pub returns-in-profile-clause-done : goal.returns-in-profile-clause-done
returns-in-profile-clause-done g c = IfOk-weaker c.profile.result _ _
    (λ s done small. (
      (_, _),
      joined _ _ _ _ _ c.in-Some.ensures.name c.in-Some.ensures.rows,
      inr (inr (inr
          (inr (inr (inr (c.in-profile.is, record { written = (done small).1; status_is = (done small).0 })))))),
    )) (profile_ran _ c.profile.result c.profile.ensures.status c.profile.ensures.done)

pub returns-in-profile-clause-usage : goal.returns-in-profile-clause-usage
returns-in-profile-clause-usage g c = IfOk-weaker c.profile.result _ _
    (λ s usage four. (
      inr (
        (_, _),
        joined _ _ _ _ _ c.in-Some.ensures.name c.in-Some.ensures.rows,
        profile_words _
            (rows_of (found_of c.in-Some.found.now)) c.in-profile.is (usage four).0,
      ),
      (usage four).1,
      (usage four).2,
    )) c.profile.ensures.usage

pub returns-in-profile-clause-refused : goal.returns-in-profile-clause-refused
returns-in-profile-clause-refused g c = IfErr-weaker c.profile.result _ _
    (λ e why. inr ((_, _), joined _ _ _ _ _ c.in-Some.ensures.name c.in-Some.ensures.rows, c.in-profile.is, why))
    c.profile.ensures.refused

pub returns-then-not-words_fit_for-clause-usage : goal.returns-then-not-words_fit_for-clause-usage
returns-then-not-words_fit_for-clause-usage g c = λ four. (
  inr (
    (_, _),
    joined _ _ _ _ _ c.in-Some.ensures.name c.in-Some.ensures.rows,
    rw c.words_fit_for.ensures at c.if-not-words_fit_for.true,
  ),
  refl,
  refl,
)

pub returns-in_ok-run_on_stack-in_default-name-clause-done :
    goal.returns-in_ok-run_on_stack-in_default-name-clause-done
returns-in_ok-run_on_stack-in_default-name-clause-done g c = λ small.
    done_as c.args.version.now (g.F.Files.holds c.args.files.now)
    (Some (c.in-Some.name.now, rows_of (found_of c.in-Some.found.now)))
    (subcommand_rows_of c.args.matches.now) c.in_ok-run_on_stack-in_default-name.field-0
    (g.O.Write.contents c.args.out.now) (g.O.Write.contents c.run_on_stack.new.out)
    (joined _ _ _ _ _ c.in-Some.ensures.name c.in-Some.ensures.rows)
    (c.in_ok-run_on_stack-in_default-name.ensures.done small)

pub returns-in_err-run_on_stack-in_default-name-clause-refused :
    goal.returns-in_err-run_on_stack-in_default-name-clause-refused
returns-in_err-run_on_stack-in_default-name-clause-refused g c =
    let fault = c.in_err-run_on_stack-in_default-name.field-0.0 in
    handed_on _ c.from_residual.result (Other fault) c.from_residual.ensures.1
    (refused_as (g.F.Files.holds c.args.files.now) (Some (c.in-Some.name.now, rows_of (found_of c.in-Some.found.now)))
    (subcommand_rows_of c.args.matches.now) (Other fault)
    (joined _ _ _ _ _ c.in-Some.ensures.name c.in-Some.ensures.rows)
    (inl (fault, refl, c.in_err-run_on_stack-in_default-name.ensures.refused)))
