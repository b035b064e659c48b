use Rattle.sf_book.proofs.book.Plain.{fresh_book}
use Rattle.sf_book.proofs.book.Book.open.Goals as goal

pub invariant_of-book : goal.invariant_of-book
invariant_of-book c = rw (c.in_ok-outstanding.ensures.ok, c.new.ensures.items, c.new-2.ensures.items)
    (fresh_book _ _ _ (rw c.deref.ensures at c.programs-programs.ensures.lawful) c.in_ok-piece.ensures.root
    c.in_ok-piece.ensures.rule
    (rw c.deref-2.ensures at c.name-name.ensures.plain))
