use Rattle.sf_command.proofs.Common.{common_steps, arith, codes, refl, found_of, paths_found, handed_on}
use Rattle.sf_command.proofs.RefusalLemmas.{without_third}
use Rattle.sf_command.proofs.subcommands.run_check.Goals as goal

pub returns-clause-done : goal.returns-clause-done
returns-clause-done g c = record {
  paths = c.unwrap_or-paths.result.now;
  named = rw c.unwrap_or-paths.ensures (paths_found (found_of c.args.found.now) (codes "filters") c.get_strs.result _
      c.get_strs.ensures refl);
  checked = rw (c.is_switched_on.ensures, c.is_switched_on-2.ensures) at c.in_ok-check.ensures.written;
  status_is = refl;
}

pub returns-in_err-check-clause-refused : goal.returns-in_err-check-clause-refused
returns-in_err-check-clause-refused g c = grind (arith, common_steps, handed_on, paths_found, without_third)
