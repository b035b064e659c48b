use Rattle.sf_piece.proofs.Common.{refl, subst, Neg, PieceData, after_return, Loads, A}
use Rattle.sf_piece.proofs.Executed.{moved_executed}
use Rattle.sf_piece.proofs.executing.execute.Goals as goal

pub returns-in-LoadWord-clause-rule : goal.returns-in-LoadWord-clause-rule
returns-in-LoadWord-clause-rule c = λ laws.
    c.load.ensures.rule c.args.run.now (rw c.in-LoadWord.is at c.in-Some.ensures.rule) (λ o h. h)

pub returns-in-LoadConstant-clause-rule : goal.returns-in-LoadConstant-clause-rule
returns-in-LoadConstant-clause-rule c = λ laws.
    c.load-in-LoadConstant.ensures.rule c.args.run.now (rw c.in-LoadConstant.is at c.in-Some.ensures.rule) (λ o h. h)

pub returns-in-LoadLength-clause-rule : goal.returns-in-LoadLength-clause-rule
returns-in-LoadLength-clause-rule c = λ laws.
    c.load-in-LoadLength.ensures.rule c.args.run.now c.in-Some.ensures.rule (λ o h. rw c.in-LoadLength.is h)

pub returns-in-LoadXConstant-clause-rule : goal.returns-in-LoadXConstant-clause-rule
returns-in-LoadXConstant-clause-rule c = λ laws.
    c.load-in-LoadXConstant.ensures.rule c.args.run.now (rw c.in-LoadXConstant.is at c.in-Some.ensures.rule) (λ o h. h)

pub returns-in-LoadXLength-clause-rule : goal.returns-in-LoadXLength-clause-rule
returns-in-LoadXLength-clause-rule c = λ laws.
    c.load-in-LoadXLength.ensures.rule c.args.run.now c.in-Some.ensures.rule (λ o h. rw c.in-LoadXLength.is h)

pub returns-in-Negate-clause-rule : goal.returns-in-Negate-clause-rule
returns-in-Negate-clause-rule c = λ laws.
    c.load-in-Negate.ensures.rule c.args.run.now c.in-Some.ensures.rule (λ o h. rw c.in-Negate.is
    (subst (λ (r : PieceData). Loads c.args.run.now A (Neg r.machine.a) o) c.run.view_is h))

pub returns-in-ReturnConstant-clause-rule : goal.returns-in-ReturnConstant-clause-rule
returns-in-ReturnConstant-clause-rule c = λ laws.
    moved_executed c.args.run.now c.leave_program.new.run c.in-Some.insn
    (after_return c.args.run.now.machine c.in-ReturnConstant.k) c.in-Some.ensures.rule
    (rw c.in-ReturnConstant.is refl) c.leave_program.ensures.moved

pub returns-in-LoadScratch-clause-rule : goal.returns-in-LoadScratch-clause-rule
returns-in-LoadScratch-clause-rule c = λ laws.
    moved_executed c.args.run.now c.move_on.new.run c.in-Some.insn c.move_on.new.run.machine c.in-Some.ensures.rule
    c.move_on.ensures.rule c.move_on.ensures.rest
