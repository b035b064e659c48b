use Rattle.sf_piece.proofs.OneStep.{one_step}
use Rattle.sf_piece.proofs.OnePiece.{one_piece, sides_reached, reached_pool}
use Rattle.sf_piece.proofs.laws.execution_has_one_result.Goals as goal

pub returns : goal.returns
returns c =
    let laws = c.rules_have_one_result.ensures in
    record { step = one_step laws; piece = one_piece laws; sides = sides_reached; pools = reached_pool }
