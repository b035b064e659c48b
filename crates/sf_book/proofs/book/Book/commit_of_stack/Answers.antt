use Rattle.sf_book.proofs.Common.{IfOk-weaker}
use Rattle.sf_book.proofs.book.Kept.{memory_refuses}
use Rattle.sf_book.proofs.book.Book.commit_of_stack.Goals as goal

pub returns-clause-ok : goal.returns-clause-ok
returns-clause-ok c = IfOk-weaker c.replace-replaced.result _ _ (λ ids h.
    (c.in_ok-admit.ensures.ok.0, c.in_ok-admit.ensures.ok.1, h)) c.replace-replaced.ensures.ok

pub returns-clause-err : goal.returns-clause-err
returns-clause-err c = memory_refuses c.replace-replaced.result c.args.self.now c.replace-replaced.new.self
    c.args.id c.args.work
    c.in_ok-admit.ensures.ok.0 c.in_ok-admit.ensures.ok.1 c.replace-replaced.ensures.err
