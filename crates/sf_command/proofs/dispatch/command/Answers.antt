use Rattle.sf_command.proofs.Common.{◌∙◌, inl, inr, sym, fault_number}
use Rattle.sf_command.proofs.dispatch.CommandLineLemmas.{no_usage, too_large}
use Rattle.sf_command.proofs.dispatch.command.Goals as goal

pub returns-in-Ok-clause-done : goal.returns-in-Ok-clause-done
returns-in-Ok-clause-done g c = λ small. inl (c.in-Ok.ensures.done small)

pub returns-clause-done : goal.returns-clause-done
returns-clause-done g c = λ small. inr (too_large _ _ c.in-Err.fault c.tell.result _ c.in-Err.ensures.refused
    c.tell.ensures c.in-Err.ensures.quiet small)

pub returns-clause-usage : goal.returns-clause-usage
returns-clause-usage g c = λ four. absurd (no_usage (fault_number c.in-Err.fault) (sym c.tell.ensures ∙ four))
