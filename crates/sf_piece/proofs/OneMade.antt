-- What is made of a piece is one thing, if facts learn and grow in one way at most.
use Rattle.sf_piece.proofs.Common.{◌≡◌, ℕ, ◌-◌, ◌^◌, Bool, true, false, List, [], ◌∷◌, ◌++◌, refl, sym, ap, subst, ◌∙◌, inl, inr, Option, AnyBit, Insn, LoadWord, LoadConstant, LoadLength, LoadXConstant, LoadXLength, Alu, Negate, Branch, ReturnA, Operand, Constant, X, Cond, Node, Const, Word, Bin, Neg, NodeId, IsPool, FactsView, CantLearn, GrowsBy, HaveOneResult, then-one, SymbolicMachine, PieceData, IsPutIn, IsGiven, Gets, GetsOperand, piece_with, Loads, Computes, query, HasQuery, with_sense, AfterTruthValue, CanLearn, LeavesOnly, IsSide, IsNamedOn, Then, common_steps, arith}
use Rattle.std.specs.Prelude.{Some}
use Rattle.sf_piece.specs.declared.machine.Register.TheVariants as register
use Rattle.sf_piece.proofs.Named.{operand_more}

-- ---- pools

pub same_id : (i j : NodeId) → i.0 ≡ j.0 → i ≡ j
same_id i j e = ap (λ (n : ℕ). let id : NodeId = record { 0 = n } in id) e

same_put : (old a b : List Node) (node : Node) (i j : NodeId) → IsPool old → IsPutIn old node a i
    → IsPutIn old node b j → (a ≡ b) × (i ≡ j)
same_put old a b node i j p (inl h) (inl k) =
    (h.1 ∙ sym k.1, same_id i j (p.twins i.0 j.0 h.0.0 k.0.0 (h.0.1 ∙ sym k.0.1)))
same_put old a b node i j p (inl h) (inr k) = absurd (k.0 i h.0)
same_put old a b node i j p (inr h) (inl k) = absurd (h.0 j k.0)
same_put old a b node i j p (inr h) (inr k) = (h.2 ∙ sym k.2, same_id i j (h.1 ∙ sym k.1))

-- Rules that have one result.
module _ (laws : HaveOneResult) where
  -- ---- words

  given_one : (p : PieceData) (node : Node) (a b : PieceData × NodeId) → IsPool p.pool → IsGiven p node a.0 a.1
      → IsGiven p node b.0 b.1 → a ≡ b
  given_one p node a b pool h k =
      let same = same_put p.pool a.0.pool b.0.pool node a.1 b.1 pool h.pool k.pool in
      let pools : a.0.pool ≡ b.0.pool = same.0 in
      let facts = laws.grown p.facts a.0.facts b.0.facts a.0.pool h.lawful h.facts
      (subst (λ ns. GrowsBy p.facts b.0.facts ns) (sym pools) k.facts) in
      let piece : a.0 ≡ b.0 = h.rest
      ∙ ap (λ (ns : List Node). let q : PieceData = record p { pool = ns; facts = a.0.facts } in q) pools
      ∙ ap (λ (f : FactsView). let q : PieceData = record p { pool = b.0.pool; facts = f } in q) facts ∙ sym k.rest in
      ap (λ (q : PieceData). (q, a.1)) piece ∙ ap (λ (id : NodeId). (b.0, id)) same.1

  gets_one : (p : PieceData) (node : Node) → IsPool p.pool → (o r : Option (PieceData × NodeId)) → Gets p node o
      → Gets p node r → o ≡ r
  gets_one p node pool o r h k = grind (arith, common_steps, given_one, same_put)

  operand_one : (p : PieceData) (other : Operand) → IsPool p.pool → (o r : Option (PieceData × NodeId))
      → GetsOperand p other o → GetsOperand p other r → o ≡ r
  operand_one p (Constant k) pool o r h g = gets_one p (Const k) pool o r h g
  operand_one p X pool o r h g = h ∙ sym g

  -- what is made of the word that a piece gets
  word_one : {B : Type 0} (p : PieceData) (node : Node) (f : PieceData × NodeId → B) → IsPool p.pool → (m n : Option B)
      → Then (Gets p node) (λ given next. next ≡ Some (f given)) m
      → Then (Gets p node) (λ given next. next ≡ Some (f given)) n → m ≡ n
  word_one p node f pool = then-one (Gets p node) (λ given next. next ≡ Some (f given)) (gets_one p node pool)
      (λ given g r s e k. e ∙ sym k)

  pub computes_one : (p : PieceData) (i : Insn) (m n : Option PieceData) → IsPool p.pool → Computes p i m
      → Computes p i n → m ≡ n
  computes_one p (LoadWord w) m n pool h k = word_one p (Word w) (piece_with register.A) pool m n h k
  computes_one p (LoadConstant c) m n pool h k = word_one p (Const c) (piece_with register.A) pool m n h k
  computes_one p LoadLength m n pool h k = word_one p (Const 64) (piece_with register.A) pool m n h k
  computes_one p (LoadXConstant c) m n pool h k = word_one p (Const c) (piece_with register.X) pool m n h k
  computes_one p LoadXLength m n pool h k = word_one p (Const 64) (piece_with register.X) pool m n h k
  computes_one p Negate m n pool h k = word_one p (Neg p.machine.a) (piece_with register.A) pool m n h k
  computes_one p (Alu op other) m n pool h k =
      then-one (GetsOperand p other) (λ right. Loads right.0 register.A (Bin op p.machine.a right.1))
      (operand_one p other pool)
      (λ right g. word_one right.0 (Bin op p.machine.a right.1) (piece_with register.A)
      ((operand_more p other right g).lawful pool))
      m n h.1 k.1
  computes_one p _ m n pool h k = absurd h

  -- ---- truth values

  pub query_one : (p : PieceData) (i : Insn) (m n : Option (PieceData × Cond)) → IsPool p.pool → HasQuery p i m
      → HasQuery p i n → m ≡ n
  query_one p (Branch test other t e) m n pool h k =
      then-one (GetsOperand p other) (λ right q. q ≡ Some (right.0, query p.machine.a test right.1))
      (operand_one p other pool) (λ right g r s e f. e ∙ sym f) m n h k
  query_one p ReturnA m n pool h k =
      word_one p (Const (2 ^ (31 - p.machine.taken))) (λ bit. (bit.0, query p.machine.a AnyBit bit.1)) pool m n h.1 k.1
  query_one p (Alu op other) m n pool h k = h.1 ∙ sym k.1
  query_one p _ m n pool h k = absurd h

  -- what can be learnt of a condition isn't what can't be
  pub can_or_cant : (asked : PieceData × Cond) (s : Bool) → IsPool asked.0.pool
      → CanLearn asked.0.facts asked.0.pool (with_sense asked.1 s)
      → CantLearn asked.0.facts asked.0.pool (with_sense asked.1 s) → ⊥
  can_or_cant asked s pool can cant =
      laws.learns_not asked.0.facts can.0 asked.0.pool (with_sense asked.1 s) pool can.1 cant

  -- both truth values can't be forced
  pub forced_one : (asked : PieceData × Cond) (s t : Bool) → IsPool asked.0.pool → LeavesOnly asked s
      → LeavesOnly asked t → s ≡ t
  forced_one asked true true pool h k = refl
  forced_one asked false false pool h k = refl
  forced_one asked true false pool h k = absurd (can_or_cant asked true pool h.can k.cant)
  forced_one asked false true pool h k = absurd (can_or_cant asked false pool h.can k.cant)

  after_one : (p : PieceData) (i : Insn) (b : Bool) (m n : SymbolicMachine) → AfterTruthValue p i b m
      → AfterTruthValue p i b n → m ≡ n
  after_one p i b m n h k = grind (arith, common_steps)

  pub named_one : (p : PieceData) (i : Insn) (s : Bool) (a b : PieceData) → IsNamedOn p i s a → IsNamedOn p i s b
      → a ≡ b
  named_one p i s a b h k =
      h.rest ∙ ap (λ (m : SymbolicMachine). let q : PieceData = record p { name = p.name ++ s ∷ []; machine = m } in q)
      (after_one p i s a.machine b.machine h.machine k.machine) ∙ sym k.rest

  pub side_one : (asked : PieceData × Cond) (i : Insn) (s : Bool) (a b : PieceData) → IsPool asked.0.pool
      → IsSide asked i s a → IsSide asked i s b → a ≡ b
  side_one asked i s a b pool h k =
      h.rest ∙ ap (λ (m : SymbolicMachine). made m a.facts)
      (after_one asked.0 i s a.machine b.machine h.machine k.machine)
      ∙ ap (made b.machine) (laws.learnt asked.0.facts a.facts b.facts asked.0.pool (with_sense asked.1 s) pool h.learns
      k.learns) ∙ sym k.rest
    where
      made : SymbolicMachine → FactsView → PieceData
      made m f = record asked.0 {
        name = asked.0.name ++ s ∷ [];
        conditions = asked.0.conditions ++ with_sense asked.1 s ∷ [];
        machine = m;
        facts = f;
      }
