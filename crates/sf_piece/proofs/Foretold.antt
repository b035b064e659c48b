-- What facts tell of a test of A is what the rules leave of it.
use Rattle.sf_piece.proofs.Common.{common_steps, ◌≡◌, ◌≢◌, ℕ, zero, suc, ◌<◌, ◌^◌, ◌⊎◌, Bool, true, false, not, List, [], ◌∷◌, ◌++◌, length, refl, inl, inr, arith, cases_lt, cases_eq, eqb-true, take_all, Option, IfSome, if◌then◌else◌, ◌==◌, Input, Test, IsInput, passes, Operand, Constant, X, Cond, Node, Const, NodeId, node_at, value_of, Known, IsPropagatedBack, FactsView, Covers, Agrees, known_at, IsConsistent, IsDecided, CantLearn, GrowsBy, IsClosedAt, number_known, IsForcedBy, ForcedIsLearnt, IsForcedCondition, IsForcedTest, PieceData, Gets, query, with_sense, LeavesOnly, IsPiece, IsOperandNumber, PassesAlways, IsTestedNumber, IsForetold}
use Rattle.std.specs.Prelude.{Some, None}

-- a word with one number is known in full
pub one_number : (k : Known) → IsConsistent k → IsDecided k → k ≡ number_known k.low
one_number k h e = grind (arith, common_steps)

-- the number of a word that has only one
pub decided_number : (k : Known) (n : ℕ) → Some n ≡ (if k.low == k.high then Some k.low else None) → IsConsistent k
    → k ≡ number_known n
decided_number k n e h = grind (arith, common_steps, eqb-true, one_number)

-- ---- a constant's node

is_constant : (m : Node) (k : ℕ) → (m ≡ Const k) ⊎ (m ≢ Const k)
is_constant m k = grind (arith, common_steps, cases_eq)

-- a pool has a constant among its first nodes, or not
find : (ns : List Node) (k n : ℕ) → ((i : ℕ) × (i < n) × (node_at ns i ≡ Const k))
    ⊎ ((i : ℕ) → i < n → node_at ns i ≢ Const k)
find ns k zero = inr (λ i l e. absurd (omega arith))
find ns k (suc n) = elim (is_constant (node_at ns n) k) [
  | inl e ↦ inl (n, omega arith, e)
  | inr ne ↦ elim (find ns k n) [
    | inl o ↦ (let l = o.1 in inl (o.0, omega arith, o.2))
    | inr none ↦ inr (λ i l e. elim (cases_lt i n) [
      | inl b ↦ none i b e
      | inr g ↦ (let last : i ≡ n = omega arith in ne (rw last at e))
    ])
  ]
]

-- facts that take in no node stay as they are
grows_not_at_all : (f : FactsView) (ns : List Node) → Covers f ns → GrowsBy f f ns
grows_not_at_all f ns h = grind (arith, common_steps, take_all)

-- the condition with another result is forced as it was
with_other : (p : PieceData) (cond : Cond) (number : ℕ) (s c : Bool) → IsForcedCondition p.facts p.pool cond number c
    → IsForcedCondition p.facts p.pool (with_sense cond s) number c
with_other p cond number s c g = grind (arith, common_steps)

-- a forced condition leaves its query only one truth value
pub leaves_only : (laws : ForcedIsLearnt) (p : PieceData) (cond : Cond) (number : ℕ) (b : Bool)
    → IsForcedCondition p.facts p.pool cond number b → LeavesOnly (p, cond) b
leaves_only laws p cond number b h = record {
  can = (let new = laws.this p.facts p.pool (with_sense cond b) number (with_other p cond number b b h) in
      (new.0, new.2));
  cant = cant b h;
}
  where
    cant : (c : Bool) → IsForcedCondition p.facts p.pool cond number c
        → CantLearn p.facts p.pool (with_sense cond (not c))
    cant true g = laws.other p.facts p.pool (with_sense cond false) number (with_other p cond number false true g)
    cant false g = laws.other p.facts p.pool (with_sense cond true) number (with_other p cond number true false g)

-- a test of A against a constant, which gets a node
pub gets_told : (laws : ForcedIsLearnt) (p : PieceData) (test : Test) (k : ℕ) (b : Bool) → Covers p.facts p.pool
    → IsForcedTest p.facts p.pool p.machine.a test k b
    → (given : PieceData × NodeId) × Gets p (Const k) (Some given)
    × LeavesOnly (given.0, query p.machine.a test given.1) b
gets_told laws p test k b h told = elim (find p.pool k (length p.pool)) [
  | inl o ↦
      let id : NodeId = record { 0 = o.0 } in
      let forced = laws.found p.facts p.pool p.machine.a id test k true b told o.1 o.2 in (
        (p, id),
        record {
          pool = inl ((o.1, o.2), refl);
          lawful = told.pool;
          facts = grows_not_at_all p.facts p.pool h;
          rest = refl;
        },
        leaves_only laws p (query p.machine.a test id) k b forced,
      )
  | inr none ↦
      let id : NodeId = record { 0 = length p.pool } in
      let new = laws.added p.facts p.pool p.machine.a id test k true b told none refl in
      let q : PieceData = record p { pool = p.pool ++ Const k ∷ []; facts = new.0 } in (
        (q, id),
        record {
          pool = inr ((λ other s. none other.0 s.0 s.1), refl, refl);
          lawful = new.2.pool;
          facts = new.1;
          rest = refl;
        },
        leaves_only laws q (query p.machine.a test id) k b new.2,
      )
]

-- a test against X, which is known to be one number
forced_x : (p : PieceData) (test : Test) (number : ℕ) (b : Bool)
    → IsForcedTest p.facts p.pool p.machine.a test number b → p.machine.x.0 < length p.pool
    → IsTestedNumber p X number → IsForcedCondition p.facts p.pool (query p.machine.a test p.machine.x) number b
forced_x p test number b told l is = grind (arith, common_steps)

-- what is told of a test of A against an operand
foretold : (laws : ForcedIsLearnt) (p : PieceData) (test : Test) (other : Operand) (number : ℕ) (b : Bool)
    → Covers p.facts p.pool → IsForcedTest p.facts p.pool p.machine.a test number b → p.machine.x.0 < length p.pool
    → IsTestedNumber p other number → IsForetold p test other b
foretold laws p test (Constant k) number b h told l is = gets_told laws p test k b h (rw is at told)
foretold laws p test X number b h told l is = (
  (p, p.machine.x),
  refl,
  leaves_only laws p (query p.machine.a test p.machine.x) number b (forced_x p test number b told l is),
)

-- what is known of A by itself tells a test
pub forced_test : (p : PieceData) (test : Test) (number : ℕ) (b : Bool) → IsPiece p
    → number < 2 ^ 32
    → IsForcedBy (IsClosedAt p.facts.excluded p.machine.a.0) (known_at p.facts.known p.machine.a.0) test number b
    → ((n : ℕ) → IsPropagatedBack n p.facts.known p.pool p.machine.a.0)
    → IsForcedTest p.facts p.pool p.machine.a test number b
forced_test p test number b h fits forced back = grind (arith, common_steps)

-- what is told of a test of A is foretold
pub told_foretold : (laws : ForcedIsLearnt) (p : PieceData) (test : Test) (other : Operand) (number : ℕ)
    (o : Option Bool) → IsPiece p → number < 2 ^ 32 → IsTestedNumber p other number
    → IfSome o (λ b. IsForcedBy (IsClosedAt p.facts.excluded p.machine.a.0)
    (known_at p.facts.known p.machine.a.0) test number b)
    → IfSome o (λ b. (n : ℕ) → IsPropagatedBack n p.facts.known p.pool p.machine.a.0)
    → IfSome o (λ b. IsForetold p test other b)
told_foretold laws p test other number None h fits is forced back = tt
told_foretold laws p test other number (Some b) h fits is forced back =
    foretold laws p test other number b h.covers (forced_test p test number b h fits forced back) h.nodes.x is

-- and every member has it
pub told_always : (p : PieceData) (test : Test) (other : Operand) (number : ℕ) (o : Option Bool) → IsPiece p
    → IsOperandNumber p other number → IfSome o (λ b. (d : Input) → IsInput d → Agrees p.facts p.pool d
    → passes test (value_of p.pool d p.machine.a.0) number ≡ b) → IfSome o (λ b. PassesAlways p test other b)
told_always p test other number None h is told = tt
told_always p test other number (Some b) h is told = λ d inp member.
    let agrees = h.known d inp member in rw (is d inp agrees) (told d inp agrees)
