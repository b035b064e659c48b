use Rattle.sf_piece.proofs.Common.{common_steps, arith, subst, IfSome, known_at, told-by, IsClosedAt, IsForcedBy, PieceData, IsAPropagatedBack}
use Rattle.sf_piece.proofs.Foretold.{told_foretold, told_always}
use Rattle.sf_piece.proofs.asking.foresee.Goals as goal

pub returns-clause-value : goal.returns-clause-value
returns-clause-value c =
    let p : PieceData = c.args.run.now in
    let h = c.requires.run in
    let n = c.in_ok-number.number in
    let forced = subst (λ (q : PieceData). IfSome c.tell.result (λ b. IsForcedBy (IsClosedAt q.facts.excluded
    q.machine.a.0) (known_at q.facts.known q.machine.a.0) c.args.test n b)) c.run.view_is c.tell.ensures.rule in
    told_always p c.args.test c.args.other n c.tell.result h c.in_ok-number.ensures.value
    (told-by c.rules_are_sound.ensures.telling c.tell.result p.facts p.pool p.machine.a.0 c.args.test n h.covers
    h.nodes.a c.in_ok-number.ensures.fits forced)

pub returns-clause-rule : goal.returns-clause-rule
returns-clause-rule c = grind (arith, common_steps, told_foretold)

pub returns-clause-propagated : goal.returns-clause-propagated
returns-clause-propagated c =
    subst (λ (q : PieceData). IfSome c.tell.result (λ b. IsAPropagatedBack q)) c.run.view_is c.tell.ensures.goes_back
