-- How large pieces get.
use Rattle.std.specs.Prelude.{ℕ, ◌+◌, ◌*◌, ◌^◌, ◌≤◌, length}
use Rattle.sf_piece.specs.Common.{IsLawfulStack}
use Rattle.sf_piece.specs.Pieces.{PieceData, IsTrulyNamed}
use Rattle.sf_piece.specs.Execution.{GoesOnFor, IsInTree}

-- A name has no more truth values than a trace can have, and there are no more conditions than these. The pool has at
-- most 2^27 nodes.
pub record IsSmall (p : PieceData) : Type 0 where
  pub name : length p.name ≤ 32768 + 32 * 64
  pub conditions : length p.conditions ≤ length p.name
  pub pool : length p.pool ≤ 2 ^ 27

-- So small is each piece of the execution tree of a lawful stack, and what it becomes as it goes on (after no step that
-- is the piece itself), where this is truly named.
abbrev pub PiecesAreSmall : Type 0
PiecesAreSmall = (p q : PieceData) (n : ℕ) → IsLawfulStack p.stack → IsInTree p → GoesOnFor n p q → IsTrulyNamed q
    → IsSmall q
