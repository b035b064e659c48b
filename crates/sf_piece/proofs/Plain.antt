-- Pieces of plain stacks.
use Rattle.sf_piece.proofs.Common.{common_steps, ◌≡◌, ℕ, ◌<◌, Bool, true, false, List, ◌∷◌, ◌++◌, length, drop, reverse, Some, slice_get, refl, sym, subst, ◌∙◌, inl, inr, arith, All, AllByRecursion, get_or_append_left, get_or-reverse, length-reverse, cases_lt, All-push, All-head, All-drop, recursion_from_All, Input, IsInput, Test, Equal, AnyBit, Insn, Branch, Operand, Constant, X, IsPlain, IsPlainInsn, Node, Const, Word, NodeId, Cond, IsPool, ArePlainNodes, OperandsBelow, folded_node, node_at, IsCondBelow, FactsView, Agrees, KeepsOnly, TakesIn, IsWordOrConst, IsPlainTest, Meets, some-input, IsPlainCondition, SymbolicMachine, PieceData, is_member, HasNoMember, IsPiece, HasAtHand, AreChildFacts, IsPlainPiece, and_from, get_or_from_slice_get, slice_get_within}
use Rattle.sf_piece.specs.Works.{with_sense}
use Rattle.sf_piece.proofs.Moves.{made}
use Rattle.sf_piece.proofs.Grown.{grown, members_grown}
use Rattle.sf_piece.proofs.Children.{child_of, child_members}

-- ---- the instruction at hand

all_reverse : {X : Type 0} (P : X → Type 0) (xs : List X) → All P xs → All P (reverse xs)
all_reverse P xs h k d less = search (arith, length-reverse, get_or-reverse)

pub all_at : {X : Type 0} (P : X → Type 0) (xs : List X) (k : ℕ) (x : X) → All P xs → slice_get xs k ≡ Some x → P x
all_at P xs k x h at = subst P (get_or_from_slice_get xs k x x at) (h k x (slice_get_within xs k x at))

plain_code : (stack : List (List Insn)) (n : ℕ) (code : List Insn) (later : List (List Insn)) → IsPlain stack
    → drop n (reverse stack) ≡ code ∷ later → All IsPlainInsn code
plain_code stack n code later plain e =
    All-head (λ p. All IsPlainInsn p) code later
    (subst (λ (l : List (List Insn)). All (λ p. All IsPlainInsn p) l) e
    (All-drop (λ p. All IsPlainInsn p) n (reverse stack) (all_reverse (λ p. All IsPlainInsn p) stack plain)))

-- the instruction at hand of a plain stack is plain
pub plain_insn : (p : PieceData) (i : Insn) → IsPlain p.stack → HasAtHand p i → IsPlainInsn i
plain_insn p i plain s = all_at IsPlainInsn s.code p.machine.place i
    (plain_code p.stack p.machine.program s.code s.later plain s.stands.rest_is) s.at

-- ---- nodes of a plain pool

pub word_or_const : (ns : List Node) (i : ℕ) → IsPool ns → ArePlainNodes ns → i < length ns
    → IsWordOrConst (node_at ns i)
word_or_const ns i pool plain less =
    elim (cases_lt i 16) [
      | inl word ↦ subst IsWordOrConst (sym (pool.word i word)) tt
      | inr past ↦ let c = plain i past less in subst IsWordOrConst (sym c.1) tt
    ]

-- a pool stays plain where a word or a constant is pushed
pub pushed_plain : (old new : List Node) (node : Node) → IsPool old → OperandsBelow (length old) node
    → IsWordOrConst node → ArePlainNodes old
    → ((c : ℕ) → node ≡ Const c → ArePlainNodes old → ArePlainNodes new)
    → ((i : ℕ) → i < length old → node_at old i ≡ folded_node old node → new ≡ old) → ArePlainNodes new
pushed_plain old new (Const c) pool below is plain constant again = constant c refl plain
pushed_plain old new (Word i) pool below is plain constant again =
    subst ArePlainNodes (sym (again i (omega (arith, pool.words)) (pool.word i below))) plain
pushed_plain old new _ pool below is plain constant again = absurd is

cond_grown : (ns added : List Node) (c : Cond) → IsCondBelow (length ns) c → IsPlainCondition ns c
    → IsPlainCondition (ns ++ added) c
cond_grown ns added c below h = grind (arith, common_steps, get_or_append_left)

conds_grown : (ns added : List Node) (cs : List Cond) → AllByRecursion (IsCondBelow (length ns)) cs
    → All (IsPlainCondition ns) cs → All (IsPlainCondition (ns ++ added)) cs
conds_grown ns added cs below h = grind (arith, common_steps, recursion_from_All, cond_grown)

-- ---- what becomes of a plain piece

-- a plain piece stays plain where only its name and its machine change
pub plain_kept : (p : PieceData) (name : List Bool) (m : SymbolicMachine) → IsPlainPiece p
    → IsPlainPiece (made p name p.conditions m p.facts)
unfolding is_member
plain_kept p name m h = record { nodes = h.nodes; conditions = h.conditions; exact = h.exact; some = h.some }

pub plain_grown : (p : PieceData) (added : List Node) (fs : FactsView) → IsPiece p → IsPlainPiece p
    → ArePlainNodes (p.pool ++ added) → TakesIn p.facts fs p.pool (p.pool ++ added) → IsPlainPiece (grown p added fs)
plain_grown p added fs k h nodes takes = grind (arith, common_steps, conds_grown, members_grown)

pub sensed_plain : (ns : List Node) (cond : Cond) (b : Bool) → IsPlainCondition ns cond
    → IsPlainCondition ns (with_sense cond b)
sensed_plain ns cond b h = record { node = h.node; number = h.number; other = h.other; test = h.test }

-- the piece of the members that have this truth value is plain, where the facts learnt are exact and some input agrees
pub plain_child : (p : PieceData) (cond : Cond) (b : Bool) (m : SymbolicMachine) (fs : FactsView) → IsPlainPiece p
    → IsPlainCondition p.pool cond → AreChildFacts p cond b fs
    → KeepsOnly p.facts fs p.pool (Meets p.pool (with_sense cond b)) → IsPlainPiece (child_of p cond b m fs)
plain_child p cond b m fs h plain f only =
    let some = some-input fs p.pool f.covers h.nodes in
    let member : (d : Input) → IsInput d → Agrees fs p.pool d → is_member (child_of p cond b m fs) d ≡ true
    = search (arith, child_members, and_from) in
    record {
      nodes = h.nodes;
      conditions = All-push (IsPlainCondition p.pool) p.conditions (with_sense cond b) h.conditions
          (sensed_plain p.pool cond b plain);
      exact = member;
      some = (some.0, some.1, member some.0 some.1 some.2);
    }

-- a plain piece has a member
pub plain_some : (p : PieceData) → IsPlainPiece p → HasNoMember p → ⊥
plain_some p h none = let clash : true ≡ false = sym h.some.2 ∙ none.none h.some.0 h.some.1 in absurd cc

-- ---- the condition of a plain test

plain_test : (test : Test) (k t f : ℕ) → IsPlainInsn (Branch test (Constant k) t f) → IsPlainTest test k
plain_test AnyBit k t f h = h
plain_test _ k t f h = tt

pub plain_asked : (q : PieceData) (test : Test) (o : Operand) (t f : ℕ) (id : NodeId) → IsPiece q → IsPlainPiece q
    → IsPlainInsn (Branch test o t f) → ((k : ℕ) → o ≡ Constant k → node_at q.pool id.0 ≡ Const k)
    → IsPlainCondition q.pool (record { node = q.machine.a; test = test; other = id; sense = true })
plain_asked q test (Constant k) t f id h plain insn constant = grind (arith, common_steps, word_or_const, plain_test)
plain_asked q Equal X t f id h plain insn constant = absurd insn
plain_asked q _ X t f id h plain insn constant = absurd insn
