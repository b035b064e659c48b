use Rattle.sf_command.proofs.Common.{◌≡◌, ◌∙◌, [], inl, inr, refl, sym, IfErr-weaker, IfOk-weaker, HasKind, Kinds, told_errors, told_subcommand}
use Rattle.sf_command.proofs.dispatch.CommandLineLemmas.{helps, refused_as, refused_words, some_error}
use Rattle.sf_command.proofs.dispatch.run_words.Goals as goal

pub returns-in-Ok-clause-done : goal.returns-in-Ok-clause-done
returns-in-Ok-clause-done g c =
    rw (← c.in_ok-meant.ensures, ← c.deref.ensures.value)
    (let fits = told_errors (λ (ks : Kinds). ks ≡ []) _ _ c.in_ok-command_form.ensures c.in-Ok.ensures.kinds in
    let entered = told_subcommand _ _ c.in-Ok.matches c.in_ok-command_form.ensures c.in-Ok.ensures.matches in
    IfOk-weaker c.run-ran.result _ _ (λ s done small. let (found, named, does) = done small in
    inl (fits, (found, sym entered ∙ named, does))) c.run-ran.ensures.done)

pub returns-clause-done : goal.returns-clause-done
returns-clause-done g c =
    rw (← c.in_ok-meant.ensures, ← c.deref.ensures.value)
    (let failed = told_errors (λ (ks : Kinds). HasKind ks c.in-Err.error) _ _ c.in_ok-command_form.ensures
    c.in-Err.ensures.kinds in
    IfOk-weaker c.write_usage.result _ _ (λ s done small. inr (helps _ _ c.in-Err.error s _ _ failed (done small)))
    c.write_usage.ensures.done)

pub returns-in-Ok-clause-usage : goal.returns-in-Ok-clause-usage
returns-in-Ok-clause-usage g c =
    rw (← c.in_ok-meant.ensures, ← c.deref.ensures.value)
    (let entered = told_subcommand _ _ c.in-Ok.matches c.in_ok-command_form.ensures c.in-Ok.ensures.matches in
    IfOk-weaker c.run-ran.result _ _ (λ s usage four. (
      refused_words _ _ entered (usage four).0,
      (usage four).1,
      (usage four).2,
    )) c.run-ran.ensures.usage)

pub returns-clause-usage : goal.returns-clause-usage
returns-clause-usage g c =
    rw (← c.in_ok-meant.ensures, ← c.deref.ensures.value)
    (let failed = told_errors (λ (ks : Kinds). HasKind ks c.in-Err.error) _ _ c.in_ok-command_form.ensures
    c.in-Err.ensures.kinds in
    IfOk-weaker c.write_usage.result _ _ (λ s usage four. (
      inl (some_error _ c.in-Err.error failed (usage four).0),
      refl,
      (usage four).1,
    )) c.write_usage.ensures.usage)

pub returns-in-Ok-clause-refused : goal.returns-in-Ok-clause-refused
returns-in-Ok-clause-refused g c =
    rw (← c.in_ok-meant.ensures, ← c.deref.ensures.value)
    (let fits = told_errors (λ (ks : Kinds). ks ≡ []) _ _ c.in_ok-command_form.ensures c.in-Ok.ensures.kinds in
    let entered = told_subcommand _ _ c.in-Ok.matches c.in_ok-command_form.ensures c.in-Ok.ensures.matches in
    IfErr-weaker c.run-ran.result _ _ (λ e why.
    inr (inr (fits, refused_as (g.F.Files.holds c.args.files.now) _ _ e (sym entered) why)))
    c.run-ran.ensures.refused)
