use Rattle.sf_crew.proofs.Common.{arith}
use Rattle.sf_crew.proofs.board.Moves.{looks}
use Rattle.sf_crew.proofs.board.Board.look.Goals as goal

pub load-found-requires : goal.load-found-requires
load-found-requires c = (c.requires.seat.0, omega arith, looks _ _ _ c.args.q _ c.requires.seat.1 c.requires.there)
