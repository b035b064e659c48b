use Rattle.sf_command.proofs.Common.{fun_ext, codes, refl, inr, found_of, paths_found, handed_on}
use Rattle.sf_command.proofs.RefusalLemmas.{without_third}
use Rattle.sf_command.proofs.subcommands.NamingLemmas.{asked_why}
use Rattle.sf_command.proofs.subcommands.run_eval.Goals as goal

pub returns-clause-done : goal.returns-clause-done
returns-clause-done g c = record {
  paths = c.unwrap_or-paths.result.now;
  named = rw c.unwrap_or-paths.ensures (paths_found (found_of c.args.found.now) (codes "filters") c.get_strs.result _
      c.get_strs.ensures refl);
  names = c.in_ok-names.names.items;
  called = c.in_ok-names.ensures.called;
  input = c.in_ok-input.input;
  asked = rw c.deref.ensures.value at c.in_ok-input.ensures.asked;
  evaluated = rw (
    c.is_switched_on.ensures,
    c.is_switched_on-2.ensures,
    c.is_switched_on-3.ensures,
    c.deref-2.ensures.value,
    fun_ext c.read_needed_names.ensures.same,
  ) at c.in_ok-evaluate.ensures.written;
  status_is = refl;
}

pub returns-in_err-input-clause-refused : goal.returns-in_err-input-clause-refused
returns-in_err-input-clause-refused g c =
    handed_on _ c.from_residual-in_err-input.result c.in_err-input.field-0.0 c.from_residual-in_err-input.ensures.1
    (inr (asked_why _ _ _ _ c.in_ok-names.ensures.called
    (rw c.numbers_fit.ensures at c.if-not-numbers_fit.false)
    (rw c.deref.ensures.value at c.in_err-input.ensures.refused)))

pub returns-in_err-evaluate-clause-refused : goal.returns-in_err-evaluate-clause-refused
returns-in_err-evaluate-clause-refused g c =
    handed_on _ c.from_residual-in_err-evaluate.result c.in_err-evaluate.field-0.0
    c.from_residual-in_err-evaluate.ensures.1 (inr (inr (inr (
      (
        c.in_ok-names.names.items,
        c.in_ok-input.input,
        c.in_ok-names.ensures.called,
        rw c.deref.ensures.value at c.in_ok-input.ensures.asked,
      ),
      (
        c.unwrap_or-paths.result.now,
        rw c.unwrap_or-paths.ensures (paths_found (found_of c.args.found.now) (codes "filters") c.get_strs.result _
            c.get_strs.ensures refl),
        rw (fun_ext c.read_needed_names.ensures.same) at (without_third c.in_err-evaluate.ensures.refused),
      ),
    ))))
