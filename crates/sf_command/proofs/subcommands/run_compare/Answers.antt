use Rattle.sf_command.proofs.Common.{codes, refl, inr, fun_ext, IfErr-weaker, IfOk-weaker, found_of, paths_found}
use Rattle.sf_command.proofs.subcommands.run_compare.Goals as goal

pub returns-clause-done : goal.returns-clause-done
returns-clause-done g c = IfOk-weaker c.compare.result _ _ (λ s written. record {
  old_paths = c.unwrap_or.result.now;
  named_old = rw c.unwrap_or.ensures (paths_found (found_of c.args.found.now) (codes "old") c.get_strs.result _
      c.get_strs.ensures refl);
  new_paths = c.unwrap_or-2.result.now;
  named_new = rw c.unwrap_or-2.ensures (paths_found (found_of c.args.found.now) (codes "new") c.get_strs-2.result _
      c.get_strs-2.ensures refl);
  names = c.in_ok-names.names.items;
  called = c.in_ok-names.ensures.called;
  known = rw c.deref.ensures.value at c.in_ok-calls.ensures.known;
  compared = rw (
    c.relation_of_status.ensures,
    c.is_switched_on.ensures,
    c.is_switched_on-2.ensures,
    c.relation_of_rows.ensures,
    c.in_ok-calls.ensures.asked,
    c.deref-2.ensures.value,
    fun_ext c.read_needed_names.ensures.same,
  ) at written;
}) c.compare.ensures.written

pub returns-clause-refused : goal.returns-clause-refused
returns-clause-refused g c = IfErr-weaker c.compare.result _ _ (λ e why. inr (inr (
  c.unwrap_or.result.now,
  rw c.unwrap_or.ensures (paths_found (found_of c.args.found.now) (codes "old") c.get_strs.result _
      c.get_strs.ensures refl),
  (
    c.unwrap_or-2.result.now,
    rw c.unwrap_or-2.ensures (paths_found (found_of c.args.found.now) (codes "new") c.get_strs-2.result _
        c.get_strs-2.ensures refl),
    (c.nodes_of.result, c.nodes_of.ensures, rw (fun_ext c.read_needed_names.ensures.same) at why),
  ),
))) c.compare.ensures.refused
