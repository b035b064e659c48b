use Rattle.sf_book.proofs.Common.{refl, false, with_lease}
use Rattle.sf_book.proofs.book.Plain.{marks_book}
use Rattle.sf_book.proofs.book.Book.recall.Goals as goal

pub invariant_of-self : goal.invariant_of-self
invariant_of-self c = rw c.recall.ensures (marks_book _ _ (with_lease false) (λ e. refl) (λ e. refl) c.self.invariant)
