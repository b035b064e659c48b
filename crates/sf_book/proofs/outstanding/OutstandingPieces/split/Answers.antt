use Rattle.sf_book.proofs.outstanding.OutstandingLists.{without_last}
use Rattle.sf_book.proofs.outstanding.OutstandingPieces.split.Goals as goal

pub returns-in-Err-clause-err : goal.returns-in-Err-clause-err
returns-in-Err-clause-err c = (
  c.in-Err.ensures.err.0,
  rw (c.remove-in-Err.ensures, c.in-Err.ensures.err.1, c.in_ok-add.ensures.ok)
      (without_last c.args.self.now _ c.requires.above),
)
