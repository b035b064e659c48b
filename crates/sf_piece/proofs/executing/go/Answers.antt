use Rattle.sf_piece.proofs.Common.{updated}
use Rattle.sf_piece.proofs.Lawful.{go_step}
use Rattle.sf_piece.proofs.executing.go.Goals as goal

pub returns-clause-step : goal.returns-clause-step
returns-clause-step c =
    let lawful = rw (← c.run.view_is) at c.requires.lawful in
    rw (← c.run.view_is, c.go_on.ensures) (go_step _ c.args.insn (updated c.run.inside.machine c.args.update) lawful
    (rw (← c.run.view_is) at c.requires.standing) (rw (← c.run.view_is) at c.requires.goes))
