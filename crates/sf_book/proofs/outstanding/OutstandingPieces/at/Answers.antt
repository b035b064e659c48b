use Rattle.sf_book.proofs.Common.{arith, common_steps}
use Rattle.sf_book.proofs.outstanding.OutstandingLists.{piece_place}
use Rattle.sf_book.proofs.outstanding.OutstandingPieces.at.Goals as goal

pub returns : goal.returns
returns c = grind (arith, common_steps, piece_place)
