-- What pieces and works of plain stacks keep besides. On a plain stack only words of the input are tested, against
-- constants, by tests that intervals, known bits and excluded numbers keep exactly. So nothing is lost: each piece has
-- a member, and no step is empty.
use Rattle.std.specs.Prelude.{◌≡◌, Bool, true, List, All}
use Rattle.sf_piece.specs.Common.{Input, IsInput, IsPlain, trace_of, ArePlainNodes, Agrees, IsPlainCondition}
use Rattle.sf_piece.specs.Execution.{HasStep, IsInTree}
use Rattle.sf_piece.specs.Pieces.{PieceData, StepData, Split, Settled, Empty, WorkData, is_member, IsRightWork}

-- The pool has only words of the input and constants. Each path condition compares one of these with a constant, by a
-- plain test. The facts are exact: an input that agrees with them is a member. And some input is a member.
pub record IsPlainPiece (p : PieceData) : Type 0 where
  pub nodes : ArePlainNodes p.pool
  pub conditions : All (IsPlainCondition p.pool) p.conditions
  pub exact : (d : Input) → IsInput d → Agrees p.facts p.pool d → is_member p d ≡ true
  pub some : (d : Input) × IsInput d × (is_member p d ≡ true)

-- both pieces of a split are plain; where the piece settled, it has a member whose trace is the whole name; no step is
-- empty
abbrev pub IsPlainStep : PieceData → StepData → List Bool → Type 0
IsPlainStep p (Split f t) n = IsPlainPiece f × IsPlainPiece t
IsPlainStep p (Settled a) n = (d : Input) × IsInput d × (is_member p d ≡ true) × (trace_of p.stack d ≡ n)
IsPlainStep p Empty n = ⊥

-- a work of a plain stack: its piece is plain, and its step is that of a plain piece
pub record IsPlainWork (w : WorkData) : Type 0 where
  pub piece : IsPlainPiece w.piece
  pub step : IsPlainStep w.piece w.step w.name

-- what the type of works keeps: the work is right, and plain where its stack is; by the rules its piece is in the
-- execution tree, and its step is the step of the piece
pub record IsLawfulWork (w : WorkData) : Type 0 where
  pub right : IsRightWork w
  pub plain : IsPlain w.piece.stack → IsPlainWork w
  pub rule : HasStep w.piece w.step w.name
  pub reached : IsInTree w.piece
