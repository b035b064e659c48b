-- What the rules of symbolic execution promise, said of the rules alone: a stack has one execution tree.
use Rattle.std.specs.Prelude.{◌≡◌, Bool, List}
use Rattle.sf_piece.specs.Common.{IsPool}
use Rattle.sf_piece.specs.Pieces.{PieceData, StepData, Split}
use Rattle.sf_piece.specs.Execution.{HasStep, IsInTree}

-- A piece has one step at most, and its work one name. The tree of a stack has one piece of a name at most, and
-- both sides of each of its splits. The pools of its pieces are lawful.
pub record IsExecutionOne : Type 0 where
  pub step : (p : PieceData) (s t : StepData) (m n : List Bool) → IsPool p.pool → HasStep p s m → HasStep p t n
      → (s ≡ t) × (m ≡ n)
  pub piece : (p q : PieceData) → IsInTree p → IsInTree q → p.stack ≡ q.stack → p.name ≡ q.name → p ≡ q
  pub sides : (p f t : PieceData) → IsInTree p → HasStep p (Split f t) p.name → IsInTree f × IsInTree t
  pub pools : (p : PieceData) → IsInTree p → IsPool p.pool
