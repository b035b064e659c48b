-- Pieces stay lawful: the symbolic run stands where it should, and on a plain stack nothing is lost.
use Rattle.sf_piece.proofs.Common.{◌≡◌, ℕ, Bool, List, [], ◌∷◌, ◌++◌, length, refl, arith, Option, IfSome, MatchOption, false_from_ne_true, All-nil, Input, IsInput, passes, Test, Insn, Operand, Constant, IsLawfulStack, IsPlain, Node, NodeId, Cond, IsPool, IsCondBelow, ArePlainNodes, Known, Admits, FactsView, known_at, Covers, Agrees, TakesIn, LearnsBy, CantLearn, IsLearningSound, IsPlainCondition, SymbolicMachine, PieceData, is_member, IsPlainPiece, IsPiece, IsLawfulPiece, HasAtHand, GoesTo, ReturnsNow, IsQuery, IsForeseen, PassesAlways, AreChildFacts, IsNever, after_return, GrowsBy, node_at, AfterTruthValue, AllByRecursion, AreCarried, IsSide, IsSmallStep, On, ap, append-nil, is_met, is_prefix, sym, trace_of, true, with_sense, ◌&&◌, ◌∙◌, learnt, All-from_recursion, All-push, recursion_from_All, some-input, IsFirst}
use Rattle.std.specs.Prelude.{Some, None}
use Rattle.sf_piece.proofs.Moves.{made}
use Rattle.sf_piece.proofs.Kept.{Turned, gone, go_turned, left_turned}
use Rattle.sf_piece.proofs.Children.{and_same, child_both, child_meets, child_members, child_of, foreseen_meets, named_next, piece_named, sense_is, taken_on, turned}
use Rattle.sf_piece.proofs.Grown.{grown, grown_piece}
use Rattle.sf_piece.proofs.AtHand.{first_piece, first_is}
use Rattle.sf_piece.proofs.Foretold.{told_always}
use Rattle.sf_piece.proofs.Plain.{plain_kept, plain_grown, plain_child, sensed_plain}

lawful : (p : PieceData) → IsPiece p → (IsPlain p.stack → IsPlainPiece p) → IsLawfulPiece p
lawful p h plain = record { named = piece_named p h; run = h; plain = plain }

-- a piece of the same pool, where its run has turned to this machine
assembled : (p : PieceData) (name : List Bool) (cs : List Cond) (m : SymbolicMachine) (fs : FactsView) → IsPiece p
    → Turned p (made p name cs m fs) → AllByRecursion (IsCondBelow (length p.pool)) cs → Covers fs p.pool
    → AreCarried fs p.pool cs
    → ((d : Input) → IsInput d → is_member (made p name cs m fs) d ≡ true → Agrees fs p.pool d)
    → ((d : Input) → IsInput d → is_member (made p name cs m fs) d ≡ is_prefix name (trace_of p.stack d))
    → (IsPlain p.stack → IsPlainPiece (made p name cs m fs)) → IsLawfulPiece (made p name cs m fs)
assembled p name cs m fs h t bounded covers carried known members plain = lawful (made p name cs m fs) (record {
  lawful = h.lawful;
  pool = h.pool;
  bounded = bounded;
  nodes = t.nodes;
  constant = ap (λ (z : NodeId). node_at p.pool z.0) t.zero_is ∙ h.constant;
  carried = carried;
  covers = covers;
  known = known;
  members = members;
  rest = t.rest;
  base = t.base;
  pre = t.pre;
  stands = t.stands;
}) plain

-- a piece goes on with its conditions and its facts
turned_step : (p : PieceData) (name on : List Bool) (m : SymbolicMachine) → IsLawfulPiece p → name ≡ p.name ++ on
    → ((d : Input) → IsInput d → is_member p d ≡ is_prefix name (trace_of p.stack d))
    → Turned p (made p name p.conditions m p.facts) → IsSmallStep p (made p name p.conditions m p.facts) On
unfolding is_member
turned_step p name on m h named members t = (
  record {
    is_on = record { of = refl; conditions = refl; on = on; name = named; members = λ d inp. refl };
    falls = t.falls;
  },
  assembled p name p.conditions m p.facts h.run t h.run.bounded h.run.covers h.run.carried h.run.known members
      (λ is. plain_kept p name m (h.plain is)),
)

pub go_step : (p : PieceData) (i : Insn) (m : SymbolicMachine) → IsLawfulPiece p → HasAtHand p i → GoesTo p i m
    → IsSmallStep p (gone p m) On
go_step p i m h s g =
    turned_step p p.name [] m h (sym (append-nil p.name)) h.run.members (go_turned p i m h.run s g)

pub leave_step : (p : PieceData) (i : Insn) (v : ℕ) → IsLawfulPiece p → HasAtHand p i → ReturnsNow p i v
    → IsSmallStep p (gone p (after_return p.machine v)) On
leave_step p i v h s r =
    turned_step p p.name [] (after_return p.machine v) h (sym (append-nil p.name)) h.run.members
    (left_turned p i v h.run s r)

pub take_step : (p : PieceData) (i : Insn) (b : Bool) (m : SymbolicMachine) → IsLawfulPiece p → HasAtHand p i
    → IsForeseen p i b → AfterTruthValue p i b m → IsSmallStep p (taken_on p b m) On
take_step p i b m h s fore after =
    turned_step p (p.name ++ b ∷ []) (b ∷ []) m h refl
    (λ d inp. and_same (is_member p d) b ∙ named_next p i b b h.run s d inp (fore.next d inp))
    (turned p i b p.conditions p.facts m h.run s fore.asks after (foreseen_meets p i b fore))

pub child_made : (p : PieceData) (i : Insn) (cond : Cond) (b : Bool) (m : SymbolicMachine) (fs : FactsView)
    → IsLawfulPiece p → HasAtHand p i → IsQuery p i cond → AreChildFacts p cond b fs → AfterTruthValue p i b m
    → IsLawfulPiece (child_of p cond b m fs) × IsSide (p, cond) i b (child_of p cond b m fs)
child_made p i cond b m fs h s e facts after =
    let cs = p.conditions ++ with_sense cond b ∷ [] in
    let below = IsCondBelow (length p.pool) in
    let side = assembled p (p.name ++ b ∷ []) cs m fs h.run
    (turned p i b cs fs m h.run s e.asks after (child_meets p i cond b m fs e))
    (recursion_from_All below cs (All-push below p.conditions (with_sense cond b)
    (All-from_recursion below p.conditions h.run.bounded) e.below)) facts.covers
    (learnt p.facts p.conditions (with_sense cond b) h.run.carried e.below facts.rule refl)
    (λ d inp member. let both = child_both p cond b m fs d member in facts.known d inp both.0 both.1)
    (λ d inp. child_members p cond b m fs d ∙ ap (λ (v : Bool). is_member p d && v) (sense_is p.pool d cond b e.sense)
    ∙ named_next p i (is_met p.pool d cond) b h.run s d inp (λ member. e.next d))
    (λ is. plain_child p cond b m fs (h.plain is) (e.plain is) facts (facts.plain is)) in
    (side, record { learns = facts.rule; machine = after; rest = refl })

-- where what is known of A tells a test of it against a number, the test has that result on every member
pub told_of_known : (p : PieceData) (test : Test) (other : Operand) (n : ℕ) (known : Known) (b : Bool) → IsPiece p
    → other ≡ Constant n → known ≡ known_at p.facts.known p.machine.a.0
    → ((x : ℕ) → Admits known x → passes test x n ≡ b) → PassesAlways p test other b
unfolding Agrees
told_of_known p test other n known b h e is told = search (arith, told_always)

-- what is learnt from the piece's facts
pub learnt_child : (laws : IsLearningSound) (p : PieceData) (cond : Cond) (b : Bool) (o : Option FactsView) → IsPiece p
    → IsCondBelow (length p.pool) cond → (IsPlain p.stack → IsPlainCondition p.pool cond)
    → IfSome o (λ fs. Covers fs p.pool)
    → MatchOption o (CantLearn p.facts p.pool (with_sense cond b))
    (λ fs. LearnsBy p.facts fs p.pool (with_sense cond b))
    → MatchOption o (IsNever p cond b) (λ fs. AreChildFacts p cond b fs)
learnt_child laws p cond b None h below plain covers cant = λ d inp member.
    let none = laws.cant_learn p.facts p.pool (with_sense cond b) h.covers below cant in
    false_from_ne_true _ (none d inp (h.known d inp member))
learnt_child laws p cond b (Some fs) h below plain covers rule =
    let learns = laws.learns p.facts fs p.pool (with_sense cond b) h.covers below covers rule in
    record {
      covers = covers;
      known = λ d inp member. learns.keeps d inp (h.known d inp member);
      rule = rule;
      plain = λ is. learns.only (sensed_plain p.pool cond b (plain is));
    }

pub lawful_grown : (p : PieceData) (added : List Node) (fs : FactsView) → IsLawfulPiece p → IsPool (p.pool ++ added)
    → TakesIn p.facts fs p.pool (p.pool ++ added) → GrowsBy p.facts fs (p.pool ++ added)
    → (IsPlain p.stack → ArePlainNodes (p.pool ++ added)) → IsLawfulPiece (grown p added fs)
lawful_grown p added fs h pool takes grows nodes =
    lawful (grown p added fs) (grown_piece p added fs h.run pool takes grows)
    (λ is. plain_grown p added fs h.run (h.plain is) (nodes is) takes)

-- ---- the first piece

pub lawful_first : (stack : List (List Insn)) (pool : List Node) (zero_id : NodeId) (fs : FactsView)
    → IsLawfulStack stack → IsFirst stack (first_piece stack pool zero_id fs) → Covers fs pool
    → ((d : Input) → IsInput d → Agrees fs pool d) → ArePlainNodes pool
    → IsLawfulPiece (first_piece stack pool zero_id fs)
unfolding is_member
lawful_first stack pool zero_id fs stacked first covers known nodes =
    lawful (first_piece stack pool zero_id fs) (first_is stack pool zero_id fs stacked first covers known)
    (λ plain. record {
      nodes = nodes;
      conditions = All-nil (IsPlainCondition pool);
      exact = λ d inp agrees. refl;
      some = (let some = some-input fs pool covers nodes in (some.0, some.1, refl));
    })
