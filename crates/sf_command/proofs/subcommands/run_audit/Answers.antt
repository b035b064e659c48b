use Rattle.sf_command.proofs.Common.{codes, refl, inr, fun_ext, IfErr-weaker, IfOk-weaker, found_of, paths_found}
use Rattle.sf_command.proofs.subcommands.run_audit.Goals as goal

pub returns-clause-done : goal.returns-clause-done
returns-clause-done g c = IfOk-weaker c.audit.result _ _ (λ s written. record {
  paths = c.unwrap_or-paths.result.now;
  named = rw c.unwrap_or-paths.ensures (paths_found (found_of c.args.found.now) (codes "filters") c.get_strs.result _
      c.get_strs.ensures refl);
  budget = c.budget_of.result;
  counted = c.budget_of.ensures;
  names = c.in_ok-names.names.items;
  called = c.in_ok-names.ensures.called;
  asked = _;
  asked_for = record {
    policies = rw c.unwrap_or.ensures (paths_found (found_of c.args.found.now) (codes "policy")
        c.get_strs-2.result _ c.get_strs-2.ensures refl);
    control = c.given_text.ensures;
    accept = c.given_text-2.ensures;
    groups = c.groups_path.ensures;
    given = c.is_given.ensures;
    names = rw c.unwrap_or-2.ensures (paths_found (found_of c.args.found.now) (codes "names")
        c.get_strs-3.result _ c.get_strs-3.ensures refl);
  };
  audited = rw (
    c.is_switched_on.ensures,
    c.is_switched_on-2.ensures,
    c.text_form.ensures,
    c.is_switched_on-3.ensures,
    c.deref.ensures.value,
    fun_ext c.read_needed_names.ensures.same,
  ) at written;
}) c.audit.ensures.written

pub returns-clause-refused : goal.returns-clause-refused
returns-clause-refused g c = IfErr-weaker c.audit.result _ _ (λ e why. inr (
  c.unwrap_or-paths.result.now,
  rw c.unwrap_or-paths.ensures (paths_found (found_of c.args.found.now)
      (codes "filters") c.get_strs.result _ c.get_strs.ensures refl),
  (
    _,
    record {
      policies = rw c.unwrap_or.ensures (paths_found (found_of c.args.found.now) (codes "policy")
          c.get_strs-2.result _ c.get_strs-2.ensures refl);
      control = c.given_text.ensures;
      accept = c.given_text-2.ensures;
      groups = c.groups_path.ensures;
      given = c.is_given.ensures;
      names = rw c.unwrap_or-2.ensures (paths_found (found_of c.args.found.now) (codes "names")
          c.get_strs-3.result _ c.get_strs-3.ensures refl);
    },
    rw (fun_ext c.read_needed_names.ensures.same) at why,
  ),
)) c.audit.ensures.refused
