use Rattle.sf_piece.proofs.Common.{Some, None, refl, ap, inl, inr}
use Rattle.sf_piece.proofs.Arms.{set_goes}
use Rattle.sf_piece.proofs.executing.load.Goals as goal

pub go-requires-clause-goes : goal.go-requires-clause-goes
go-requires-clause-goes c =
    let h = rw c.in-Some.is at c.in_ok-id.ensures.pushed in
    set_goes c.args.run.now c.args.insn c.args.to c.args.node c.push.new.run c.in-Some.id h c.requires.sets

pub go-requires-clause-standing : goal.go-requires-clause-standing
go-requires-clause-standing c =
    let h = rw c.in-Some.is at c.in_ok-id.ensures.pushed in
    h.grown.standing c.args.insn c.requires.standing

pub returns-in-Some-clause-rule : goal.returns-in-Some-clause-rule
returns-in-Some-clause-rule c = λ p at computes.
    let gets = rw c.in-Some.is at c.in_ok-id.ensures.rule in
    let made = computes (Some c.go.new.run) (Some (c.push.new.run, c.in-Some.id), gets, ap Some c.go.ensures.moved) in
    (1, (c.go.new.run, (c.args.insn, at, inr (inl made)), refl))

pub returns-in-None-clause-rule : goal.returns-in-None-clause-rule
returns-in-None-clause-rule c = λ p at computes.
    (c.args.insn, at, inl (computes None (None, rw c.in-None.is at c.in_ok-id.ensures.rule, refl)))
