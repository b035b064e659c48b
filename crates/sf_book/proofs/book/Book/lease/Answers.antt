use Rattle.sf_book.proofs.Common.{common_steps, arith, refl, true, with_lease_at}
use Rattle.sf_book.proofs.book.Plain.{marks_book}
use Rattle.sf_book.proofs.book.Book.lease.Goals as goal

pub invariant_of-self-2 : goal.invariant_of-self-2
invariant_of-self-2 c =
    let l = rw c.in-Some.is at c.in_ok-id.ensures.ok in
    rw l.after (marks_book _ _ (with_lease_at c.in-Some.id true) (λ e. refl) (λ e. refl) c.self.invariant)

pub returns-in_default-clause-ok : goal.returns-in_default-clause-ok
returns-in_default-clause-ok c = grind (arith, common_steps)

pub returns-clause-ok : goal.returns-clause-ok
returns-clause-ok c =
    let l = rw c.in-Some.is at c.in_ok-id.ensures.ok in
    rw (← c.self.view_is) (record { there = l.there; first = l.first; after = rw l.after refl })
