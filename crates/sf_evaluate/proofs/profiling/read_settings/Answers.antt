use Rattle.sf_evaluate.proofs.Common.{inl, inr, refl, subst, sym, Other, handed_on, AreCallsOf}
use Rattle.sf_stack.specs.declared.fault.Fault.TheVariants.{Memory}
use Rattle.sf_evaluate.proofs.profiling.ProfilingLemmas.{calling_why}
use Rattle.sf_evaluate.proofs.profiling.read_settings.Goals as goal

pub returns-in_err-names-clause-refused : goal.returns-in_err-names-clause-refused
returns-in_err-names-clause-refused g c =
    let (paths, named, why) = c.in_err-names.ensures.refused in
    handed_on _ c.from_residual.result (Other c.in_err-names.field-0.0) c.from_residual.ensures.1
    (paths, named, inl (c.in_err-names.field-0.0, refl, why))

pub returns-in-Err-clause-refused : goal.returns-in-Err-clause-refused
returns-in-Err-clause-refused g c =
    let called = c.in_ok-names.ensures.called in
    (called.paths, called.named, rw c.into.ensures (calling_why _ _ _ _ called.read c.in-Err.ensures.refused))

pub returns-in_ok-settings_of-in-Ok-clause-read : goal.returns-in_ok-settings_of-in-Ok-clause-read
returns-in_ok-settings_of-in-Ok-clause-read g c = let called = c.in_ok-names.ensures.called in record {
  words = c.in_ok-settings_of-in-Ok.ensures.words;
  paths = called.paths;
  named = called.named;
  names = c.in_ok-names.names.items;
  read = called.read;
  calls = subst (AreCallsOf c.in_ok-names.names.items) (sym c.in_ok-settings_of-in-Ok.ensures.calls)
      c.in-Ok.ensures.meant;
}

pub returns-in_err-settings_of-in-Ok-clause-refused : goal.returns-in_err-settings_of-in-Ok-clause-refused
returns-in_err-settings_of-in-Ok-clause-refused g c =
    let called = c.in_ok-names.ensures.called in
    let r = c.from_residual-in_err-settings_of-in-Ok in
    handed_on _ r.result (Other Memory) r.ensures.1 (called.paths, called.named, inl (Memory, refl, inr (inl refl)))
