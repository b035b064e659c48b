use Rattle.sf_book.proofs.Common.{plain_permuted}
use Rattle.sf_book.proofs.book.Growing.{fringe-permuted}
use Rattle.sf_book.proofs.book.Kept.{permuted_lawful}
use Rattle.sf_book.proofs.book.Book.finish.Goals as goal

pub invariant_of-settled : goal.invariant_of-settled
invariant_of-settled c =
    let moved = c.put_in_order.ensures.permutation in
    record {
      settled = record {
        lawful = permuted_lawful _ _ moved c.self.invariant.kept.lawful;
        order = c.put_in_order.ensures.sorted;
      };
      plain = record { book = λ h. plain_permuted _ _ moved (c.self.invariant.plain.book h) };
      fringe = fringe-permuted _ _ moved c.self.invariant.fringe;
    }
