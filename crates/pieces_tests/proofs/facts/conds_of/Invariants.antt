use Rattle.std.proofs.Common.{length}
use Rattle.std.specs.Prelude.{All}
use Rattle.sf_sym.specs.Pool.{IsCondBelow}
use Rattle.pieces_tests.proofs.facts.conds_of.Given as goal

abbrev pub invariant-loop-i : goal.invariant-loop-i
invariant-loop-i l = All (IsCondBelow (length l.piece.pool)) l.conds.items
