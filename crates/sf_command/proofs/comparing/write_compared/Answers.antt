use Rattle.sf_command.proofs.Common.{IfErr-weaker, on_ok_weaker}
use Rattle.sf_command.proofs.RefusalLemmas.{or_else}
use Rattle.sf_command.proofs.comparing.write_compared.Goals as goal

pub returns-then-not-task-clause-refused : goal.returns-then-not-task-clause-refused
returns-then-not-task-clause-refused g c = IfErr-weaker c.write_found.result _ _ (λ e why. or_else why)
    c.write_found.ensures.refused

pub returns-clause-written : goal.returns-clause-written
returns-clause-written g c = on_ok_weaker c.write_rows.result (λ written. rw c.if-not-task.false (
  c.in_ok-changes.changes,
  c.in_ok-changes.ensures.only,
  c.in_ok-changes.ensures.listed,
  written,
)) c.write_rows.ensures.written

pub returns-clause-refused : goal.returns-clause-refused
returns-clause-refused g c = IfErr-weaker c.write_rows.result _ _ (λ e why. or_else why) c.write_rows.ensures.refused
