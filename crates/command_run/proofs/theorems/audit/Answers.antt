use Rattle.command_run.proofs.AuditLemmas.{audit_says}
use Rattle.command_run.proofs.theorems.audit.Goals as goal

pub returns : goal.returns
returns g c policy bytes words policy_known known ended =
    audit_says (g.F.Files.holds c.args.files.now) policy bytes policy_known known _ _ c.command.result _ _ _ words
    c.command.ensures.done (λ large. large.0) ended
