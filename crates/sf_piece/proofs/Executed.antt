-- Small steps of a piece, as the rules have them.
use Rattle.sf_piece.proofs.Common.{common_steps, arith, ◌≡◌, ℕ, zero, suc, ◌-◌, ◌^◌, ◌<◌, Bool, refl, sym, ap, ◌∙◌, inl, inr, Test, Equal, AnyBit, Insn, Branch, ReturnA, Operand, Constant, Cond, Const, NodeId, node_at, IsPropagatedBack, known_at, closed-consistent, constant-known, IsClosedAt, number_known, ForcedIsLearnt, IsForcedBy, Decision, Implied, Neither, SmallStep, On, Empty, SymbolicMachine, PieceData, AsksTest, IsAPropagatedBack, IsPiece, GetsOperand, with_machine, MovesTo, query, HasQuery, LeavesOnly, IsNamedOn, IsAtHand, IsForetold, after_return, IsDecision, IsCarriedOut, IsExecuted, GoesOn}
use Rattle.std.specs.Prelude.{Some, None}
use Rattle.sf_piece.specs.declared.deciding.Decision.TheVariants as decided
use Rattle.sf_piece.specs.declared.deciding.SmallStep.TheVariants.{Split}
use Rattle.sf_piece.proofs.Foretold.{leaves_only, one_number}

-- What was decided is carried out. Its query may be of a piece in which both words have nodes.
pub carried_executed : (p r : PieceData) (i : Insn) (asked : PieceData × Cond) (d : Decision) (step : SmallStep)
    → IsAtHand p i → HasQuery p i (Some asked) → IsDecision asked i d → IsCarriedOut p i d r step
    → IsExecuted p r step
carried_executed p r i asked (Implied b) On at asks h named =
    (1, (r, (i, at, inr (inr (asked, b, asks, h, named))), refl))
carried_executed p r i asked (decided.Split f t) (Split g u) at asks h same = grind (arith, common_steps)
carried_executed p r i asked Neither Empty at asks h done = (i, at, inr (inr (asked, asks, h)))
carried_executed p r i asked _ _ at asks h none = absurd none

-- ---- a test of A

-- what an instruction asks for of A
pub asked_for : (p : PieceData) (i : Insn) (test : Test) (other : Operand) (given : PieceData × NodeId)
    → AsksTest p i test other → GetsOperand p other (Some given)
    → HasQuery p i (Some (given.0, query p.machine.a test given.1))
asked_for p i test other given (inl (t, f, e)) gets = rw e (Some given, gets, refl)
asked_for p i test other given (inr (e, et, eo, more)) gets = rw (e, et) (more, (Some given, rw eo at gets, refl))

-- its second word contradicts
pub asks_none : (p q : PieceData) (i : Insn) (test : Test) (other : Operand) → AsksTest p i test other → IsAtHand p i
    → GetsOperand p other None → IsExecuted p q Empty
asks_none p q i test other asks at none = grind (arith, common_steps)

-- its result is foretold, and the piece goes on
pub told_goes : (p q : PieceData) (i : Insn) (test : Test) (other : Operand) (b : Bool) → AsksTest p i test other
    → IsAtHand p i → IsForetold p test other b → IsNamedOn p i b q → GoesOn p q
told_goes p q i test other b asks at told named =
    let asked : PieceData × Cond = (told.0.0, query p.machine.a test told.0.1) in
    (i, at, inr (inr (asked, b, asked_for p i test other told.0 asks told.1, told.2, named)))

pub back_behind : (p q : PieceData) (test : Test) (other : Operand) (t f : ℕ) (b : Bool)
    → IsNamedOn p (Branch test other t f) b q → IsAPropagatedBack p → IsAPropagatedBack q
back_behind p q test other t f b named back = grind (arith, common_steps)

-- ---- a return of A

-- all bits of A are in the name
pub returned_executed : (p q : PieceData) → IsAtHand p ReturnA → p.machine.taken ≡ 32
    → q ≡ with_machine p (after_return p.machine p.machine.value) → IsExecuted p q On
returned_executed p q at all same =
    (1, (q, (ReturnA, at, inl (after_return p.machine p.machine.value, (all, refl), same)), refl))

-- the next bit is implied
pub bit_executed : (p q : PieceData) (number : ℕ) (b : Bool) → IsAtHand p ReturnA → p.machine.taken < 32
    → number ≡ 2 ^ (31 - p.machine.taken) → IsForetold p AnyBit (Constant number) b → IsNamedOn p ReturnA b q
    → IsExecuted p q On
bit_executed p q number b at more e told named =
    let asks : AsksTest p ReturnA AnyBit (Constant number) = inr (refl, refl, ap Constant e, more) in
    (1, (q, told_goes p q ReturnA AnyBit (Constant number) b asks at told named, refl))

back_constant : (n c : ℕ) (p : PieceData) (i : ℕ) → node_at p.pool i ≡ Const c
    → IsPropagatedBack n p.facts.known p.pool i
back_constant zero c p i e = tt
back_constant (suc n) c p i e = rw e tt

-- whether X is 0, where the facts tell it
pub zero_told : (laws : ForcedIsLearnt) (p : PieceData) (b : Bool) → IsPiece p
    → IsForcedBy (IsClosedAt p.facts.excluded p.machine.x.0) (known_at p.facts.known p.machine.x.0) Equal 0 b
    → ((n : ℕ) → IsPropagatedBack n p.facts.known p.pool p.machine.x.0)
    → LeavesOnly (p, query p.machine.x Equal p.machine.zero) b
zero_told laws p b h forced back =
    let rest = h.covers.rest p.machine.zero.0 h.nodes.zero in
    let ends = constant-known p.facts.known p.facts.excluded p.pool p.machine.zero.0 0 rest h.constant in
    let known : known_at p.facts.known p.machine.zero.0 ≡ number_known 0
    = one_number (known_at p.facts.known p.machine.zero.0)
    (closed-consistent (known_at p.facts.known p.machine.zero.0) rest.closed.known)
    (ends.0 ∙ sym ends.1) ∙ ap number_known ends.0 in
    leaves_only laws p (query p.machine.x Equal p.machine.zero) 0 b (record {
      pool = h.pool;
      count = h.covers.count;
      lists = h.covers.words;
      rest = h.covers.rest;
      below = (h.nodes.x, h.nodes.zero);
      decided = known;
      forced = forced;
      node_back = back;
      other_back = λ n. back_constant n 0 p p.machine.zero.0 h.constant;
    })

-- ---- an instruction

-- an instruction that moves words about, jumps or returns a constant
pub moved_executed : (p r : PieceData) (i : Insn) (m : SymbolicMachine) → IsAtHand p i → MovesTo p.machine i m
    → r ≡ with_machine p m → IsExecuted p r On
moved_executed p r i m at moves same = (1, (r, (i, at, inl (m, moves, same)), refl))
