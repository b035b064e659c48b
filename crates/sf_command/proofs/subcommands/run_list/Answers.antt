use Rattle.sf_command.proofs.Common.{codes, refl, inr, fun_ext, found_of, paths_found, handed_on}
use Rattle.sf_command.proofs.subcommands.NamingLemmas.{calls_refused}
use Rattle.sf_command.proofs.subcommands.run_list.Goals as goal

pub returns-clause-done : goal.returns-clause-done
returns-clause-done g c = record {
  paths = c.unwrap_or.result.now;
  named = rw c.unwrap_or.ensures (paths_found (found_of c.args.found.now) (codes "filters") c.get_strs.result _
      c.get_strs.ensures refl);
  names = c.in_ok-names.names.items;
  called = c.in_ok-names.ensures.called;
  known = rw c.deref.ensures.value at c.in_ok-calls.ensures.known;
  listed = rw (
    c.form_of.ensures,
    c.in_ok-calls.ensures.asked,
    c.deref-2.ensures.value,
    fun_ext c.read_needed_names.ensures.same,
  ) at c.in_ok-list.ensures.written;
  status_is = refl;
}

pub returns-in_err-calls-clause-refused : goal.returns-in_err-calls-clause-refused
returns-in_err-calls-clause-refused g c =
    handed_on _ c.from_residual-in_err-calls.result c.in_err-calls.field-0.0 c.from_residual-in_err-calls.ensures.1
    (calls_refused _ _ _ _ _ c.in_ok-names.ensures.called (rw c.deref.ensures.value at c.in_err-calls.ensures.refused))

pub returns-in_err-list-clause-refused : goal.returns-in_err-list-clause-refused
returns-in_err-list-clause-refused g c =
    handed_on _ c.from_residual-in_err-list.result c.in_err-list.field-0.0 c.from_residual-in_err-list.ensures.1
    (inr (inr (
      c.unwrap_or.result.now,
      rw c.unwrap_or.ensures (paths_found (found_of c.args.found.now) (codes "filters") c.get_strs.result _
          c.get_strs.ensures refl),
      (
        c.nodes_of.result,
        c.nodes_of.ensures,
        rw (fun_ext c.read_needed_names.ensures.same) at c.in_err-list.ensures.refused,
      ),
    )))
