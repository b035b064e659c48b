-- The step of a piece, by the rules of symbolic execution. Words are symbolic: they are nodes of the piece's pool.
-- Where an instruction meets a truth value, its condition is learnt as false and as true, each from the same facts. If
-- neither contradicts, the execution tree forks: the piece is split, and each side gets its condition as a path
-- condition. If one contradicts, the other truth value is implied, and is added to the name alone: path conditions,
-- facts and pool gain nothing by it. Leaves of the tree are of two kinds. A piece is settled where the last program has
-- returned. It is emptied where both truth values contradict, or where a new word does.
use Rattle.std.specs.Prelude.{◌≡◌, ℕ, zero, suc, ◌+◌, ◌-◌, ◌*◌, ◌<◌, ◌≤◌, ◌^◌, ◌⊎◌, not, Bool, true, false, List, [], ◌∷◌, ◌++◌, length, get_or, Option, Some, None, slice_get, slice_set, if◌then◌else◌, ◌==◌}
use Rattle.sf_piece.specs.Common.{BinOp, Div, Test, Equal, AnyBit, Insn, LoadWord, LoadConstant, LoadLength, LoadScratch, LoadXConstant, LoadXLength, LoadXScratch, StoreA, StoreX, Alu, Negate, Jump, Branch, ReturnConstant, ReturnA, Tax, Txa, Operand, Constant, X, IsAt, Cond, Node, Const, Word, Bin, Neg, NodeId, IsPool, node_at, folded_node, FactsView, StartsBy, LearnsBy, CantLearn, GrowsBy, CantGrow, Then, SymbolicMachine, Register, Load}
use Rattle.sf_piece.specs.declared.machine.Register.TheVariants as register
use Rattle.sf_piece.specs.Machines.{after_return, first_machine, updated}
pub use Rattle.sf_piece.specs.Machines.{on}
use Rattle.sf_piece.specs.Pieces.{PieceData, StepData, Split, Settled, Empty}

-- ---- words

-- this node stands at this place of a pool
abbrev pub IsNodeAt : List Node → Node → NodeId → Type 0
IsNodeAt ns node id = (id.0 < length ns) × (node_at ns id.0 ≡ node)

-- A pool gets a node, in the form in which it keeps that. Where it has a node of this form, it stays as it is; else
-- this becomes its last node.
abbrev pub IsPutIn : List Node → Node → List Node → NodeId → Type 0
IsPutIn old node new id =
    (IsNodeAt old (folded_node old node) id × (new ≡ old))
    ⊎ (((other : NodeId) → ¬ IsNodeAt old (folded_node old node) other) × (id.0 ≡ length old)
    × (new ≡ old ++ folded_node old node ∷ []))

-- a piece gets a word: its pool gets the node, and its facts take that in
pub record IsGiven (p : PieceData) (node : Node) (q : PieceData) (id : NodeId) : Type 0 where
  pub pool : IsPutIn p.pool node q.pool id
  pub lawful : IsPool q.pool
  pub facts : GrowsBy p.facts q.facts q.pool
  pub rest : q ≡ record p { pool = q.pool; facts = q.facts }

-- the facts of a piece can't take in a word
abbrev pub CantBeGiven : PieceData → Node → Type 0
CantBeGiven p node = (pool : List Node) × (id : NodeId) × IsPutIn p.pool node pool id × CantGrow p.facts pool

-- what becomes of a piece that is to get a word: it has the word then, or its facts can't take that in
abbrev pub Gets : PieceData → Node → Option (PieceData × NodeId) → Type 0
Gets p node (Some given) = IsGiven p node given.0 given.1
Gets p node None = CantBeGiven p node

-- a piece gets the word of an operand: for a constant its pool gets a node, while X has one already
abbrev pub GetsOperand : PieceData → Operand → Option (PieceData × NodeId) → Type 0
GetsOperand p (Constant k) given = Gets p (Const k) given
GetsOperand p X given = given ≡ Some (p, p.machine.x)

-- ---- instructions that meet no truth value

-- the piece with another machine
abbrev pub with_machine : PieceData → SymbolicMachine → PieceData
with_machine p m = record p { machine = m }

-- the piece at the next instruction, with the word that it was given in this register
abbrev pub piece_with : Register → PieceData × NodeId → PieceData
piece_with to given = with_machine given.0 (updated given.0.machine (Load to given.1))

-- the piece gets a word and has it in this register at the next instruction; none where the word contradicts
abbrev pub Loads : PieceData → Register → Node → Option PieceData → Type 0
Loads p to node = Then (Gets p node) (λ given next. next ≡ Some (piece_with to given))

-- whether an operation asks first whether X is 0
abbrev pub divides_at : BinOp → Operand → ℕ → Bool
divides_at Div X taken = taken == 0
divides_at _ _ taken = false

-- what becomes of a piece by an instruction that makes a word: none where a word contradicts
abbrev pub Computes : PieceData → Insn → Option PieceData → Type 0
Computes p (LoadWord w) next = Loads p register.A (Word w) next
Computes p (LoadConstant k) next = Loads p register.A (Const k) next
Computes p LoadLength next = Loads p register.A (Const 64) next
Computes p (LoadXConstant k) next = Loads p register.X (Const k) next
Computes p LoadXLength next = Loads p register.X (Const 64) next
Computes p Negate next = Loads p register.A (Neg p.machine.a) next
Computes p (Alu op other) next = (divides_at op other p.machine.taken ≡ false)
    × Then (GetsOperand p other) (λ right. Loads right.0 register.A (Bin op p.machine.a right.1)) next
Computes p _ next = ⊥

-- where the machine stands after an instruction that moves words about, jumps or returns
abbrev pub MovesTo : SymbolicMachine → Insn → SymbolicMachine → Type 0
MovesTo m (LoadScratch k) n = (w : NodeId) × (slice_get m.scratch k ≡ Some (Some w)) × (n ≡ record (on m) { a = w })
MovesTo m (LoadXScratch k) n = (w : NodeId) × (slice_get m.scratch k ≡ Some (Some w)) × (n ≡ record (on m) { x = w })
MovesTo m (StoreA k) n = n ≡ record (on m) { scratch = slice_set m.scratch k (Some m.a) }
MovesTo m (StoreX k) n = n ≡ record (on m) { scratch = slice_set m.scratch k (Some m.x) }
MovesTo m Tax n = n ≡ record (on m) { x = m.a }
MovesTo m Txa n = n ≡ record (on m) { a = m.x }
MovesTo m (Jump k) n = n ≡ record (on m) { place = m.place + 1 + k }
MovesTo m (ReturnConstant v) n = n ≡ after_return m v
MovesTo m ReturnA n = (m.taken ≡ 32) × (n ≡ after_return m m.value)
MovesTo m _ n = ⊥

-- ---- truth values

-- the condition that a test of two words is passed
abbrev pub query : NodeId → Test → NodeId → Cond
query node test other = record { node = node; test = test; other = other; sense = true }

-- the condition that the same test has this result
abbrev pub with_sense : Cond → Bool → Cond
with_sense cond b = record cond { sense = b }

-- What an instruction asks for: the piece in which both words of the condition have nodes, and that condition. None
-- where a word contradicts. A test asks for its result, a division by X whether X is 0, and a return of A for the bits
-- of A, the highest first.
abbrev pub HasQuery : PieceData → Insn → Option (PieceData × Cond) → Type 0
HasQuery p (Branch test other t f) asked =
    Then (GetsOperand p other) (λ right q. q ≡ Some (right.0, query p.machine.a test right.1)) asked
HasQuery p ReturnA asked = (p.machine.taken < 32)
    × Then (Gets p (Const (2 ^ (31 - p.machine.taken))))
    (λ bit q. q ≡ Some (bit.0, query p.machine.a AnyBit bit.1)) asked
HasQuery p (Alu op other) asked = (divides_at op other p.machine.taken ≡ true)
    × (asked ≡ Some (p, query p.machine.x Equal p.machine.zero))
HasQuery p _ asked = ⊥

-- where the machine stands after this truth value of the instruction
abbrev pub AfterTruthValue : PieceData → Insn → Bool → SymbolicMachine → Type 0
AfterTruthValue p (Branch test other t f) b m =
    m ≡ record p.machine { place = p.machine.place + 1 + (if b then t else f) }
AfterTruthValue p ReturnA b m = m ≡ record p.machine {
  taken = p.machine.taken + 1;
  value = 2 * p.machine.value + (if b then 1 else 0);
}
AfterTruthValue p (Alu Div X) true m = m ≡ after_return p.machine 0
AfterTruthValue p (Alu Div X) false m = m ≡ record p.machine { taken = 1 }
AfterTruthValue p _ b m = ⊥

-- facts can learn a condition
abbrev pub CanLearn : FactsView → List Node → Cond → Type 0
CanLearn f ns cond = (new : FactsView) × LearnsBy f new ns cond

-- a truth value of a query is implied: the other one contradicts, and this one doesn't
pub record LeavesOnly (asked : PieceData × Cond) (b : Bool) : Type 0 where
  pub can : CanLearn asked.0.facts asked.0.pool (with_sense asked.1 b)
  pub cant : CantLearn asked.0.facts asked.0.pool (with_sense asked.1 (not b))

-- both truth values of a query contradict
pub record LeavesNeither (asked : PieceData × Cond) : Type 0 where
  pub false_cant : CantLearn asked.0.facts asked.0.pool (with_sense asked.1 false)
  pub true_cant : CantLearn asked.0.facts asked.0.pool (with_sense asked.1 true)

-- the side of a split on which a query has this truth value: its condition is one more path condition, and is learnt
pub record IsSide (asked : PieceData × Cond) (i : Insn) (b : Bool) (c : PieceData) : Type 0 where
  pub learns : LearnsBy asked.0.facts c.facts asked.0.pool (with_sense asked.1 b)
  pub machine : AfterTruthValue asked.0 i b c.machine
  pub rest : c ≡ record asked.0 {
    name = asked.0.name ++ b ∷ [];
    conditions = asked.0.conditions ++ with_sense asked.1 b ∷ [];
    machine = c.machine;
    facts = c.facts;
  }

-- The piece goes on with an implied truth value of the instruction: its name gains it, and its machine goes on. Nothing
-- else changes.
pub record IsNamedOn (p : PieceData) (i : Insn) (b : Bool) (q : PieceData) : Type 0 where
  pub machine : AfterTruthValue p i b q.machine
  pub rest : q ≡ record p { name = p.name ++ b ∷ []; machine = q.machine }

-- ---- small steps

-- the instructions of the program that runs; the newest program runs first
abbrev pub code_at : PieceData → List Insn
code_at p = get_or p.stack (length p.stack - 1 - p.machine.program) []

-- this is the instruction at hand
abbrev pub IsAtHand : PieceData → Insn → Type 0
IsAtHand p i = (p.machine.program < length p.stack) × IsAt (code_at p) p.machine.place i

-- the instruction turns the piece into the next one: by moving words, by making a word, or by an implied truth value
abbrev pub MakesOf : PieceData → Insn → PieceData → Type 0
MakesOf p i q =
    ((m : SymbolicMachine) × MovesTo p.machine i m × (q ≡ with_machine p m))
    ⊎ Computes p i (Some q)
    ⊎ ((asked : PieceData × Cond) × (b : Bool) × HasQuery p i (Some asked) × LeavesOnly asked b × IsNamedOn p i b q)

-- the piece goes on, to the next instruction or the next truth value
abbrev pub GoesOn : PieceData → PieceData → Type 0
GoesOn p q = (i : Insn) × IsAtHand p i × MakesOf p i q

-- the piece is split by the instruction at hand: into a side where its query is false, and one where it is true
abbrev pub SplitsInto : PieceData → PieceData → PieceData → Type 0
SplitsInto p f t = (i : Insn) × (asked : PieceData × Cond) × IsAtHand p i × HasQuery p i (Some asked)
    × IsSide asked i false f × IsSide asked i true t

-- the piece is emptied by the instruction at hand: a word contradicts, or both truth values of its query do
abbrev pub IsEmptied : PieceData → Type 0
IsEmptied p = (i : Insn) × IsAtHand p i
    × (Computes p i None ⊎ HasQuery p i None ⊎ ((asked : PieceData × Cond) × HasQuery p i (Some asked)
    × LeavesNeither asked))

-- ---- the step

-- the piece goes on n times
abbrev pub GoesOnFor : ℕ → PieceData → PieceData → Type 0
GoesOnFor zero p q = q ≡ p
GoesOnFor (suc n) p q = (next : PieceData) × GoesOn p next × GoesOnFor n next q

-- what becomes of piece p once it has gone on as q, and the name of its work: q's name where it settles, else p's
abbrev pub EndsAs : PieceData → PieceData → StepData → List Bool → Type 0
EndsAs p q (Split f t) name = SplitsInto q f t × (name ≡ p.name)
EndsAs p q (Settled answer) name = (length q.stack ≤ q.machine.program) × (answer ≡ q.machine.so_far) × (name ≡ q.name)
EndsAs p q Empty name = IsEmptied q × (name ≡ p.name)

-- the step of a piece, and the name of its work
abbrev pub HasStep : PieceData → StepData → List Bool → Type 0
HasStep p step name = (n : ℕ) × (q : PieceData) × GoesOnFor n p q × EndsAs p q step name

-- ---- the execution tree

-- The root of a stack's tree: nothing has run, and the pool has the words of the input, and 0.
pub record IsFirst (stack : List (List Insn)) (p : PieceData) : Type 0 where
  pub stack_is : p.stack ≡ stack
  pub name : p.name ≡ []
  pub conditions : p.conditions ≡ []
  pub pool : IsPool p.pool
  pub count : length p.pool ≡ 17
  pub zero : node_at p.pool 16 ≡ Const 0
  pub facts : StartsBy p.facts p.pool
  pub machine : p.machine ≡ first_machine p.machine.zero
  pub place : p.machine.zero.0 ≡ 16

-- piece p lies below r in the tree: from r down, each truth value says which side of the next split is taken
abbrev pub IsBelow : List Bool → PieceData → PieceData → Type 0
IsBelow [] r p = p ≡ r
IsBelow (b ∷ bs) r p = (f : PieceData) × (t : PieceData) × HasStep r (Split f t) r.name
    × IsBelow bs (if b then t else f) p

-- a piece of the tree of its stack
pub record IsInTree (p : PieceData) : Type 0 where
  pub first : PieceData
  pub starts : IsFirst p.stack first
  pub sides : List Bool
  pub below : IsBelow sides first p
