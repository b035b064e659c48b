-- The parts of a step of the symbolic run, for contracts between the functions that work a piece. Nothing above this
-- crate speaks of these.
use Rattle.std.specs.Prelude.{◌≡◌, ◌≢◌, ℕ, zero, suc, ◌+◌, ◌-◌, ◌*◌, ◌<◌, ◌≤◌, ◌^◌, ◌⊎◌, Bool, true, false, List, [], ◌∷◌, ◌++◌, length, replicate, Some, slice_get}
use Rattle.sf_piece.specs.Common.{Input, IsInput, Div, Test, Equal, AnyBit, Insn, LoadScratch, LoadXScratch, StoreA, StoreX, Alu, Jump, Branch, ReturnConstant, ReturnA, Tax, Txa, Operand, IsInRange, loaded_by, Constant, X, IsAt, IsLawfulStack, IsPlain, State, Progress, goes, operand_of, with_a, with_x, insn_progress, Node, NodeId, Const, node_at, value_of, values_of, node_value, is_met, IsCondBelow, Cond, apply, passes, Known, Admits, FactsView, Covers, Agrees, IsPlainCondition, KeepsOnly, known_at, Meets, LearnsBy, ForcedIsLearnt, IsClosed, number_known, IsForcedBy, IsPropagatedBack, Register, SymbolicMachine}
use Rattle.sf_piece.specs.declared.deciding.Decision.{Decision}
use Rattle.sf_piece.specs.declared.deciding.Decision.TheVariants.{Implied, Neither}
use Rattle.sf_piece.specs.declared.deciding.SmallStep.{SmallStep}
use Rattle.sf_piece.specs.declared.deciding.SmallStep.TheVariants.{On}
use Rattle.sf_piece.specs.declared.deciding.Decision.TheVariants as decided
use Rattle.sf_piece.specs.declared.deciding.SmallStep.TheVariants.{Split, Settled, Empty}
use Rattle.sf_piece.specs.declared.machine.Register.TheVariants as register
use Rattle.sf_piece.specs.Execution.{GetsOperand, GoesOnFor, IsEmptied, IsNamedOn, IsSide, LeavesNeither, LeavesOnly, SplitsInto, query}
pub use Rattle.sf_piece.specs.Execution.{IsAtHand, code_at, with_sense, AfterTruthValue, divides_at}
use Rattle.sf_piece.specs.Pieces.{PieceData, HasNoMember, IsRightAnswer, IsRightSplit, is_member}
use Rattle.sf_piece.specs.PlainPieces.{IsPlainPiece}
use Rattle.sf_piece.specs.SymbolicRun.{AreNodesBelow, IsLawfulPiece, StandsAt, met_of, concrete_state}

-- a bound on what is still to be done: each small step makes this number smaller
abbrev pub work_left : PieceData → ℕ
work_left p = 524288 * (length p.stack - p.machine.program) + 64 * (4096 - p.machine.place) + (33 - p.machine.taken)

-- The piece has this instruction at hand, in a program that hasn't returned. Its nodes are in the pool, its numbers are
-- in their ranges, and the scratch word that the instruction loads, if any, is set.
pub record HasAtHand (p : PieceData) (i : Insn) : Type 0 where
  pub code : List Insn
  pub later : List (List Insn)
  pub base : List Bool
  pub pre : List Bool
  pub stands : StandsAt p (code ∷ later) base pre
  pub at : IsAt code p.machine.place i
  pub here : IsAtHand p i
  pub lawful : IsLawfulStack p.stack
  pub running : p.machine.program < length p.stack
  pub small : p.machine.place < 4096
  pub in_range : IsInRange i
  pub nodes : AreNodesBelow (length p.pool) p.machine
  pub zero : (d : Input) → value_of p.pool d p.machine.zero.0 ≡ 0
  pub set : (k : ℕ) → loaded_by i ≡ Some k → (w : NodeId) × (slice_get p.machine.scratch k ≡ Some (Some w))
  pub taken : p.machine.taken ≤ 32
  pub value : p.machine.taken < 32 → p.machine.value < 2 ^ 31

-- these are the instructions of the program that runs, and the place is among them
pub record IsCodeAtHand (p : PieceData) (code : List Insn) : Type 0 where
  pub running : p.machine.program < length p.stack
  pub is : code ≡ code_at p
  pub inside : p.machine.place < length code
  pub short : length code ≤ 4096

-- The instruction tests whether A equals a number; where A is another number, it skips this many instructions. The test
-- fails on each number that this knowledge admits, and where nothing more follows from the knowledge, the rules force
-- it to fail.
pub record IsFailing (i : Insn) (known : Known) (skips : ℕ) : Type 0 where
  pub number : ℕ
  pub on_true : ℕ
  pub is : i ≡ Branch Equal (Constant number) on_true skips
  pub fails : (x : ℕ) → Admits known x → passes Equal x number ≡ false
  pub forced : IsClosed known → IsForcedBy IsClosed known Equal number false

-- From one place of a program, n tests of this kind lead to another place: each stands where the one before it leads
-- when it fails.
abbrev pub AreFailing : List Insn → Known → ℕ → ℕ → ℕ → Type 0
AreFailing code known zero place behind = behind ≡ place
AreFailing code known (suc n) place behind =
    (i : Insn) × (skips : ℕ) × IsAt code place i × IsFailing i known skips
    × AreFailing code known n (place + 1 + skips) behind

-- the piece behind n tests that fail, at the place where the last one leads
abbrev pub behind_chain : PieceData → ℕ → ℕ → PieceData
behind_chain p n place = record p {
  name = p.name ++ replicate n false;
  machine = record p.machine { place = place };
}

-- q has the members of p, of the same stack and by the same conditions, and a name that goes on from p's
pub record IsContinuation (p q : PieceData) : Type 0 where
  pub of : q.stack ≡ p.stack
  pub conditions : q.conditions ≡ p.conditions
  pub on : List Bool
  pub name : q.name ≡ p.name ++ on
  pub members : (d : Input) → IsInput d → is_member q d ≡ is_member p d

-- the piece has gone on, and less is left to be done
pub record HasAdvanced (p q : PieceData) : Type 0 where
  pub is_on : IsContinuation p q
  pub falls : work_left q < work_left p

-- the piece has gone on, or stands where it stood
pub record HasGoneOn (p q : PieceData) : Type 0 where
  pub is_on : IsContinuation p q
  pub left : work_left q ≤ work_left p
  pub lawful : IsLawfulPiece q

-- the pool and the facts have grown, and all else stands as it was
pub record HasGrown (p q : PieceData) : Type 0 where
  pub same : q ≡ record p { pool = q.pool; facts = q.facts }
  pub members : (d : Input) → is_member q d ≡ is_member p d
  pub state : (d : Input) → concrete_state q.pool p.machine d ≡ concrete_state p.pool p.machine d
  pub standing : (i : Insn) → HasAtHand p i → HasAtHand q i
  pub nodes : AreNodesBelow (length q.pool) p.machine

-- A node of the grown pool has the value of this node on every input. Where this node is a constant, that one is the
-- same constant.
pub record IsPushed (p : PieceData) (node : Node) (q : PieceData) (id : NodeId) : Type 0 where
  pub grown : HasGrown p q
  pub lawful : IsLawfulPiece q
  pub within : id.0 < length q.pool
  pub value : (d : Input) → value_of q.pool d id.0 ≡ node_value d (values_of p.pool d) node
  pub constant : (c : ℕ) → node ≡ Const c → node_at q.pool id.0 ≡ Const c

-- A node of the grown pool has, on every input, the value of the second word of an operation or a test. Where this word
-- is a constant, the node is that constant.
pub record IsOperand (p : PieceData) (other : Operand) (q : PieceData) (id : NodeId) : Type 0 where
  pub grown : HasGrown p q
  pub lawful : IsLawfulPiece q
  pub within : id.0 < length q.pool
  pub value : (d : Input) → value_of q.pool d id.0 ≡ operand_of (concrete_state p.pool p.machine d) other
  pub constant : (k : ℕ) → other ≡ Constant k → node_at q.pool id.0 ≡ Const k

-- the state at the next instruction, with A divided by X
abbrev pub divided : PieceData → Input → State
divided p d = record (concrete_state p.pool p.machine d) {
  place = p.machine.place + 1;
  a = apply Div (value_of p.pool d p.machine.a.0) (value_of p.pool d p.machine.x.0);
}

-- On every input the instruction meets nothing and goes on to the state of machine m. Or it is a division by X, the
-- name says already that X is not 0, and on every input the state of m is the next one, with the quotient in A.
abbrev pub GoesBy : PieceData → Insn → SymbolicMachine → Type 0
GoesBy p i m =
    ((d : Input) → insn_progress d (concrete_state p.pool p.machine d) i ≡ goes [] (concrete_state p.pool m d))
    ⊎ ((i ≡ Alu Div X) × (p.machine.taken ≡ 1) × ((d : Input) → concrete_state p.pool m d ≡ divided p d))

-- The instruction goes to this state on each input, and all truth values that it meets are in the name already.
pub record GoesTo (p : PieceData) (i : Insn) (m : SymbolicMachine) : Type 0 where
  pub program : m.program ≡ p.machine.program
  pub so_far : m.so_far ≡ p.machine.so_far
  pub zero : m.zero ≡ p.machine.zero
  pub taken : m.taken ≡ 0
  pub value : m.value ≡ 0
  pub nodes : AreNodesBelow (length p.pool) m
  pub run : GoesBy p i m

-- the instruction puts the value of a node in a register
abbrev pub Sets : PieceData → Insn → Register → Node → Type 0
Sets p i register.A node =
    ((d : Input) → insn_progress d (concrete_state p.pool p.machine d) i ≡ with_a (concrete_state p.pool p.machine d)
    (node_value d (values_of p.pool d) node))
    ⊎ ((i ≡ Alu Div X) × (p.machine.taken ≡ 1)
    × ((d : Input) → node_value d (values_of p.pool d) node ≡ apply Div (value_of p.pool d p.machine.a.0)
    (value_of p.pool d p.machine.x.0)))
Sets p i register.X node =
    (d : Input) → insn_progress d (concrete_state p.pool p.machine d) i ≡ with_x (concrete_state p.pool p.machine d)
    (node_value d (values_of p.pool d) node)

-- the instruction returns this value: it is the constant of a return, or the number of A's bits once all 32 of them are
-- taken
abbrev pub ReturnsNow : PieceData → Insn → ℕ → Type 0
ReturnsNow p i v = (i ≡ ReturnConstant v) ⊎ ((i ≡ ReturnA) × (p.machine.taken ≡ 32) × (v ≡ p.machine.value))

-- the instruction moves words about, or jumps
abbrev pub IsMove : Insn → Type 0
IsMove (LoadScratch k) = Unit {0}
IsMove (LoadXScratch k) = Unit {0}
IsMove (StoreA k) = Unit {0}
IsMove (StoreX k) = Unit {0}
IsMove (Jump k) = Unit {0}
IsMove Tax = Unit {0}
IsMove Txa = Unit {0}
IsMove _ = ⊥

-- of the truth values that a step meets, the next one that isn't taken is this
abbrev pub NextIs : Progress → ℕ → Bool → Type 0
NextIs progress taken e = slice_get (met_of progress) taken ≡ Some e

-- the instruction meets a truth value that is not in the name
abbrev pub Asks : SymbolicMachine → Insn → Type 0
Asks m (Branch test other t f) = Unit {0}
Asks m ReturnA = m.taken < 32
Asks m (Alu Div X) = m.taken ≡ 0
Asks m _ = ⊥

-- the instruction asks for this test of A: it is the test, or it returns A and asks for the bit of the operand
abbrev pub AsksTest : PieceData → Insn → Test → Operand → Type 0
AsksTest p i test other =
    ((t : ℕ) × (f : ℕ) × (i ≡ Branch test other t f))
    ⊎ ((i ≡ ReturnA) × (test ≡ AnyBit) × (other ≡ Constant (2 ^ (31 - p.machine.taken))) × (p.machine.taken < 32))

-- the next truth value is whether the condition is met
pub record IsQuery (p : PieceData) (i : Insn) (cond : Cond) : Type 0 where
  pub asks : Asks p.machine i
  pub sense : cond.sense ≡ true
  pub below : IsCondBelow (length p.pool) cond
  pub next : (d : Input) → NextIs (insn_progress d (concrete_state p.pool p.machine d) i) p.machine.taken
      (is_met p.pool d cond)
  pub plain : IsPlain p.stack → IsPlainCondition p.pool cond

-- on every member the test of A against an operand has this result
abbrev pub PassesAlways : PieceData → Test → Operand → Bool → Type 0
PassesAlways p test other b = (d : Input) → IsInput d → is_member p d ≡ true
    → passes test (value_of p.pool d p.machine.a.0) (operand_of (concrete_state p.pool p.machine d) other) ≡ b

-- an operand has this value on every input that agrees with the facts
abbrev pub IsOperandNumber : PieceData → Operand → ℕ → Type 0
IsOperandNumber p other n = (d : Input) → IsInput d → Agrees p.facts p.pool d
    → operand_of (concrete_state p.pool p.machine d) other ≡ n

-- what is known of the bits of A is known of the nodes that it comes of
abbrev pub IsAPropagatedBack : PieceData → Type 0
IsAPropagatedBack p = (n : ℕ) → IsPropagatedBack n p.facts.known p.pool p.machine.a.0

-- the operand is the constant of this number; or it is X, which is known to be this number, and from which no bits
-- would go back
abbrev pub IsTestedNumber : PieceData → Operand → ℕ → Type 0
IsTestedNumber p (Constant k) n = n ≡ k
IsTestedNumber p X n = (known_at p.facts.known p.machine.x.0 ≡ number_known n)
    × ((m : ℕ) → IsPropagatedBack m p.facts.known p.pool p.machine.x.0)

-- the piece can get the operand of a test of A, and with that the rules leave only this result
abbrev pub IsForetold : PieceData → Test → Operand → Bool → Type 0
IsForetold p test other b = (asked : PieceData × NodeId) × GetsOperand p other (Some asked)
    × LeavesOnly (asked.0, query p.machine.a test asked.1) b

-- over n tests that fail the piece has gone on to this place, and by the rules too
pub record IsOver (p : PieceData) (n place : ℕ) : Type 0 where
  pub gone : HasGoneOn p (behind_chain p n place)
  pub rule : ForcedIsLearnt → IsAPropagatedBack p → GoesOnFor n p (behind_chain p n place)

-- the instruction meets a truth value that is not in the name, and on every member it is this one
pub record IsForeseen (p : PieceData) (i : Insn) (b : Bool) : Type 0 where
  pub asks : Asks p.machine i
  pub next : (d : Input) → IsInput d → is_member p d ≡ true
      → NextIs (insn_progress d (concrete_state p.pool p.machine d) i) p.machine.taken b

-- the condition has this truth value on no member
abbrev pub IsNever : PieceData → Cond → Bool → Type 0
IsNever p cond b = (d : Input) → IsInput d → is_member p d ≡ true → is_met p.pool d (with_sense cond b) ≡ false

-- Facts of the members on which the condition has this truth value: the piece's facts learn it, by the rules of facts.
-- On a plain stack these are exact: an input that agrees with them agreed before, and the condition has this truth
-- value on it.
pub record AreChildFacts (p : PieceData) (cond : Cond) (b : Bool) (facts : FactsView) : Type 0 where
  pub covers : Covers facts p.pool
  pub known : (d : Input) → IsInput d → is_member p d ≡ true → is_met p.pool d (with_sense cond b) ≡ true
      → Agrees facts p.pool d
  pub rule : LearnsBy p.facts facts p.pool (with_sense cond b)
  pub plain : IsPlain p.stack → KeepsOnly p.facts facts p.pool (Meets p.pool (with_sense cond b))

-- ---- what one instruction, or one truth value, makes of a piece

-- what is right of an instruction or a truth value, by what it makes of piece p: p goes on as q, is split, settles with
-- the name and the answer so far of q, or has no member
abbrev pub IsSmallStep : PieceData → PieceData → SmallStep → Type 0
IsSmallStep p q On = HasAdvanced p q × IsLawfulPiece q
IsSmallStep p q (Split f t) = IsRightSplit p f t × (IsPlain p.stack → IsPlainPiece f × IsPlainPiece t)
    × IsLawfulPiece f × IsLawfulPiece t
IsSmallStep p q Settled = IsRightAnswer p q.name q.machine.so_far
IsSmallStep p q Empty = HasNoMember p

-- by the rules the piece goes on as this one, after some number of small steps
abbrev pub HasGoneFor : PieceData → PieceData → Type 0
HasGoneFor p q = (n : ℕ) × GoesOnFor n p q

-- what an instruction or a truth value makes of a piece, by the rules
abbrev pub IsExecuted : PieceData → PieceData → SmallStep → Type 0
IsExecuted p q On = HasGoneFor p q
IsExecuted p q (Split f t) = SplitsInto p f t
IsExecuted p q Settled = (q ≡ p) × (length p.stack ≤ p.machine.program)
IsExecuted p q Empty = IsEmptied p

-- A piece has gone on to its end: from where it stood then, its last small step, after which it doesn't go on, makes
-- this of it.
pub record HasEnded (p r : PieceData) (s : SmallStep) : Type 0 where
  pub last : PieceData
  pub is_on : IsContinuation p last
  pub goes : HasGoneFor p last
  pub step : IsSmallStep last r s
  pub rule : IsExecuted last r s
  pub ends : s ≢ On

-- what the rules leave of a query: both truth values, one that is implied, or neither
abbrev pub IsDecision : PieceData × Cond → Insn → Decision → Type 0
IsDecision asked i (decided.Split f t) = IsSide asked i false f × IsSide asked i true t
IsDecision asked i (Implied b) = LeavesOnly asked b
IsDecision asked i Neither = LeavesNeither asked

-- what is right of a decision: both pieces of a split are right and lawful, every member has the implied truth value,
-- or the piece has no member
abbrev pub IsRightDecision : PieceData → Insn → Decision → Type 0
IsRightDecision p i (decided.Split f t) = IsSmallStep p p (Split f t)
IsRightDecision p i (Implied b) = IsForeseen p i b
IsRightDecision p i Neither = HasNoMember p

-- the piece goes on as was decided: it is split into the two pieces of the decision, gets the implied truth value, or
-- is empty
abbrev pub IsCarriedOut : PieceData → Insn → Decision → PieceData → SmallStep → Type 0
IsCarriedOut p i (decided.Split f t) q (Split g u) = (f ≡ g) × (t ≡ u)
IsCarriedOut p i (Implied b) q On = IsNamedOn p i b q
IsCarriedOut p i Neither q Empty = Unit {0}
IsCarriedOut p i _ q _ = ⊥
