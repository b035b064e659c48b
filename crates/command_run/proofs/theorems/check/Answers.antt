use Rattle.command_run.proofs.CheckLemmas.{check_says}
use Rattle.command_run.proofs.theorems.check.Goals as goal

pub returns : goal.returns
returns g c bytes text program words known spelled told =
    check_says (g.F.Files.holds c.args.files.now) bytes program known spelled c.a_refusal_spells_no_stack.ensures _ text
    told c.one_stack.ensures c.one_check_text.ensures _ c.command.result _ _ _ words c.command.ensures.status
    c.command.ensures.done (λ four. (c.command.ensures.usage four).0) (λ three. (c.command.ensures.refused three).1)
