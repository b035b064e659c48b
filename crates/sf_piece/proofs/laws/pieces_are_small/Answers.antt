use Rattle.sf_piece.proofs.Sizes.{small_piece}
use Rattle.sf_piece.proofs.laws.pieces_are_small.Goals as goal

pub returns : goal.returns
returns c = small_piece
