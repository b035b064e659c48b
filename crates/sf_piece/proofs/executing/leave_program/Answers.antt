use Rattle.sf_piece.proofs.Lawful.{leave_step}
use Rattle.sf_piece.proofs.executing.leave_program.Goals as goal

pub returns-clause-step : goal.returns-clause-step
returns-clause-step c =
    let lawful = rw (← c.run.view_is) at c.requires.lawful in
    rw (← c.run.view_is, c.start_next.ensures) (leave_step _ c.args.insn c.args.value lawful
    (rw (← c.run.view_is) at c.requires.standing) (rw (← c.run.view_is) at c.requires.returns))
