use Rattle.sf_book.proofs.Common.{◌≡◌, ◌≤◌, arith, sym, ap, ◌∙◌, BookData}
use Rattle.sf_book.proofs.book.Book.admit.Goals as goal

pub returns-then-self-clause-err : goal.returns-then-self-clause-err
returns-then-self-clause-err c =
    let e = c.in-Some.ensures in
    let same : c.args.work.now.piece.stack ≡ c.self.inside.stack.value =
    c.requires ∙ ap (λ (b : BookData). b.stack) (sym c.self.view_is) in
    rw (← c.self.view_is) (search arith)

pub returns-clause-ok : goal.returns-clause-ok
returns-clause-ok c =
    let e = c.in-Some.ensures in
    let same : c.args.work.now.piece.stack ≡ c.self.inside.stack.value =
    c.requires ∙ ap (λ (b : BookData). b.stack) (sym c.self.view_is) in
    let le : c.self.inside.commits ≤ c.self.inside.budget = c.self.invariant.kept.lawful.within in
    rw (← c.self.view_is) (search arith)
