use Rattle.sf_command.proofs.Common.{codes, refl, IfErr-weaker, IfOk-weaker, found_of, paths_found}
use Rattle.sf_command.proofs.subcommands.run_needed.Goals as goal

pub returns-clause-done : goal.returns-clause-done
returns-clause-done g c = IfOk-weaker c.needed.result _ _ (λ s written. record {
  paths = c.unwrap_or.result.now;
  named = rw c.unwrap_or.ensures (paths_found (found_of c.args.found.now) (codes "filters") c.get_strs.result _
      c.get_strs.ensures refl);
  needed = rw c.is_switched_on.ensures at written;
}) c.needed.ensures.written

pub returns-clause-refused : goal.returns-clause-refused
returns-clause-refused g c = IfErr-weaker c.needed.result _ _ (λ e why. (
  c.unwrap_or.result.now,
  rw c.unwrap_or.ensures (paths_found (found_of c.args.found.now)
      (codes "filters") c.get_strs.result _ c.get_strs.ensures refl),
  (c.nodes_of.result, c.nodes_of.ensures, why),
)) c.needed.ensures.refused
