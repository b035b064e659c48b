use Rattle.sf_book.proofs.Common.{refl, false, with_lease_at}
use Rattle.sf_book.proofs.book.Plain.{marks_book}
use Rattle.sf_book.proofs.book.Book.give_back.Goals as goal

pub invariant_of-self : goal.invariant_of-self
invariant_of-self c = rw c.give_back.ensures
    (marks_book _ _ (with_lease_at c.args.id false) (λ e. refl) (λ e. refl) c.self.invariant)
