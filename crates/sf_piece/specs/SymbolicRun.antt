-- The symbolic run behind a piece: the invariant that the type of pieces keeps. A reader has to believe only what
-- stands in Pieces; this proves it. A machine's symbolic state stands for a concrete one on each input
-- (`concrete_state`). For every member the concrete run of the stack, after the truth values of the piece's name, has
-- come to just that state: its trace is the name, and then what the rest of the run meets from there (`Follows`,
-- `StandsAt`).
use Rattle.std.specs.Prelude.{◌≡◌, ℕ, ◌+◌, ◌*◌, ◌<◌, ◌≤◌, ◌⊎◌, Bool, true, false, List, [], ◌∷◌, ◌++◌, length, take, drop, reverse, map, Some, option_map, slice_get, if◌then◌else◌}
use Rattle.sf_piece.specs.Common.{flat_map, AllByRecursion, Input, IsInput, Div, Insn, Alu, ReturnA, X, IsAt, IsLawfulProgram, IsLawfulStack, IsPlain, State, Progress, goes, returns, stuck, step, run_for, met_by, return_of, trace_of, returns_of, IsAnswer, IsWay, AreWays, IsWholeRoute, IsReachable, Node, Const, NodeId, IsPool, node_at, value_of, IsCondBelow, Covers, Agrees, AreCarried, SymbolicMachine}
use Rattle.sf_piece.specs.PlainPieces.{IsPlainPiece}
use Rattle.sf_piece.specs.Pieces.{PieceData, is_member, is_prefix, IsTrulyNamed}
use Rattle.sf_piece.specs.Execution.{IsInTree}

-- the concrete state for which a symbolic one stands, on an input
abbrev pub concrete_state : List Node → SymbolicMachine → Input → State
concrete_state pool m d = record {
  place = m.place;
  a = value_of pool d m.a.0;
  x = value_of pool d m.x.0;
  scratch = map (option_map (λ (n : NodeId). value_of pool d n.0)) m.scratch;
}

-- the nodes of a machine are in the pool
pub record AreNodesBelow (n : ℕ) (m : SymbolicMachine) : Type 0 where
  pub a : m.a.0 < n
  pub x : m.x.0 < n
  pub zero : m.zero.0 < n
  pub scratch : (k : ℕ) (w : NodeId) → slice_get m.scratch k ≡ Some (Some w) → w.0 < n

-- the truth values that a step meets
abbrev pub met_of : Progress → List Bool
met_of (goes met s) = met
met_of (returns met v) = met
met_of stuck = []

-- the number that bits spell, the highest first
abbrev pub number_from : ℕ → List Bool → ℕ
number_from n [] = n
number_from n (b ∷ bs) = number_from (2 * n + (if b then 1 else 0)) bs

-- Which truth values of the instruction at the place are in the name already: none; as many bits of a returned A as are
-- taken; or, of a division, that X is not 0.
abbrev pub IsPending : List Insn → ℕ → ℕ → List Bool → Type 0
IsPending code place taken pre =
    ((taken ≡ 0) × (pre ≡ [])) ⊎ ((IsAt code place ReturnA × (taken ≤ 32) × (length pre ≡ taken))
    ⊎ (IsAt code place (Alu Div X) × (taken ≡ 1) × (pre ≡ false ∷ [])))

-- the machine stands in this program: on each input in a state that the program may reach, and with these truth values
-- of its instruction in the name already
pub record IsIn (code : List Insn) (pool : List Node) (m : SymbolicMachine) (pre : List Bool) : Type 0 where
  pub safe : (d : Input) → IsReachable code (concrete_state pool m d)
  pub pending : IsPending code m.place m.taken pre

-- the machine stands in the first of the programs that are left; where none is, no truth value is pending
abbrev pub InProgram : List (List Insn) → List Node → SymbolicMachine → List Bool → Type 0
InProgram [] pool m pre = pre ≡ []
InProgram (code ∷ later) pool m pre = IsIn code pool m pre

-- what control alone may still meet
abbrev pub RouteFrom : List (List Insn) → ℕ → List Bool → Type 0
RouteFrom [] place more = more ≡ []
RouteFrom (code ∷ later) place more = (met : List Bool) × (on : List Bool) × IsWay code place met × AreWays later on
    × (more ≡ met ++ on)

-- what the run of the programs that are left meets and returns
abbrev pub RunsOn : List (List Insn) → Input → State → List Bool → List ℕ → Type 0
RunsOn [] d s more vs = (more ≡ []) × (vs ≡ [])
RunsOn (code ∷ later) d s more vs =
    (n : ℕ) × (o : List Bool × ℕ) × (run_for n code d s ≡ Some o) × (more ≡ o.0 ++ flat_map (λ p. met_by p d) later)
    × (vs ≡ o.1 ∷ map (λ p. return_of p d) later)

-- the truth values taken are those that the step at hand meets first
abbrev pub HasTaken : List (List Insn) → Input → State → ℕ → List Bool → Type 0
HasTaken [] d s taken pre = Unit {0}
HasTaken (code ∷ later) d s taken pre = pre ≡ take taken (met_of (step code d s))

-- The run of this input has come to the machine's state. Whatever the programs that are left meet and return from
-- there, the trace is `base` and then what they meet; the values are first earlier ones, which make the answer so far,
-- and then these. The truth values that are taken are those that the step at hand meets first.
pub record Follows (p : PieceData) (rest : List (List Insn)) (base pre : List Bool) (d : Input) : Type 0 where
  pub ends : (more : List Bool) (vs : List ℕ) → RunsOn rest d (concrete_state p.pool p.machine d) more vs
      → (trace_of p.stack d ≡ base ++ more) × ((earlier : List ℕ) × (returns_of p.stack d ≡ earlier ++ vs)
      × IsAnswer earlier p.machine.so_far)
  pub taken : HasTaken rest d (concrete_state p.pool p.machine d) p.machine.taken pre

-- where a piece's run stands, among the programs that have not returned, newest first
pub record StandsAt (p : PieceData) (rest : List (List Insn)) (base pre : List Bool) : Type 0 where
  pub rest_is : drop p.machine.program (reverse p.stack) ≡ rest
  pub laws : AllByRecursion IsLawfulProgram rest
  pub name_is : p.name ≡ base ++ pre
  pub number : p.machine.value ≡ number_from 0 pre
  pub inside : InProgram rest p.pool p.machine pre
  pub route : (more : List Bool) → RouteFrom rest p.machine.place more → IsWholeRoute p.stack (base ++ more)
  pub runs : (d : Input) → IsInput d → is_member p d ≡ true → Follows p rest base pre d

-- What holds of a piece of a lawful stack. Its pool has the nodes of its conditions and of its machine, one of which is
-- the constant 0. Its facts are carried along and cover the pool, and each member agrees with them. The members are the
-- inputs whose trace begins with the name, and the run of the piece stands somewhere.
pub record IsPiece (p : PieceData) : Type 0 where
  pub lawful : IsLawfulStack p.stack
  pub pool : IsPool p.pool
  pub bounded : AllByRecursion (IsCondBelow (length p.pool)) p.conditions
  pub nodes : AreNodesBelow (length p.pool) p.machine
  pub constant : node_at p.pool p.machine.zero.0 ≡ Const 0
  pub carried : AreCarried p.facts p.pool p.conditions
  pub covers : Covers p.facts p.pool
  pub known : (d : Input) → IsInput d → is_member p d ≡ true → Agrees p.facts p.pool d
  pub members : (d : Input) → IsInput d → is_member p d ≡ is_prefix p.name (trace_of p.stack d)
  pub rest : List (List Insn)
  pub base : List Bool
  pub pre : List Bool
  pub stands : StandsAt p rest base pre

-- a lawful piece: the name is true, and the symbolic run stands where it should; on a plain stack nothing is lost
pub record IsLawfulPiece (p : PieceData) : Type 0 where
  pub named : IsTrulyNamed p
  pub run : IsPiece p
  pub plain : IsPlain p.stack → IsPlainPiece p

-- what the type of pieces keeps: the piece is lawful, and by the rules it is in the execution tree of its stack
pub record IsPieceOfTree (p : PieceData) : Type 0 where
  pub lawful : IsLawfulPiece p
  pub reached : IsInTree p
