-- A piece has one step at most.
use Rattle.sf_piece.proofs.Common.{common_steps, ◌≡◌, ℕ, zero, suc, ◌≤◌, ◌⊎◌, Bool, true, false, List, length, refl, sym, ap, subst, ◌∙◌, inl, inr, arith, Option, same_Some, Insn, Cond, NodeId, IsPool, CantLearn, HaveOneResult, SymbolicMachine, PieceData, StepData, Split, Computes, MovesTo, HasQuery, with_sense, LeavesOnly, LeavesNeither, IsSide, IsNamedOn, code_at, IsAtHand, MakesOf, GoesOn, SplitsInto, IsEmptied, GoesOnFor, EndsAs, HasStep}
use Rattle.std.specs.Prelude.{Some, None, slice_get}
use Rattle.sf_piece.specs.Pieces.{Settled, Empty}
use Rattle.sf_piece.proofs.Kept.{at_same}
use Rattle.sf_piece.proofs.Named.{made_on, query_more}
use Rattle.sf_piece.proofs.OneMade.{can_or_cant, computes_one, forced_one, named_one, query_one, side_one}

-- ---- small steps

same_word : (m : SymbolicMachine) (k : ℕ) (v w : NodeId) → slice_get m.scratch k ≡ Some (Some v)
    → slice_get m.scratch k ≡ Some (Some w) → v ≡ w
same_word m k v w h g = same_Some v w (same_Some (Some v) (Some w) (sym h ∙ g))

moves_once : (m : SymbolicMachine) (i : Insn) (a b : SymbolicMachine) → MovesTo m i a → MovesTo m i b → a ≡ b
moves_once m i a b h g = grind (arith, common_steps, same_word)

moves_alone : (p : PieceData) (i : Insn) (a : SymbolicMachine) (n : Option PieceData) → MovesTo p.machine i a
    → Computes p i n → ⊥
moves_alone p i a n h g = grind (arith, common_steps)

asks_alone : (p : PieceData) (i : Insn) (a : SymbolicMachine) (n : Option (PieceData × Cond))
    → MovesTo p.machine i a
    → HasQuery p i n → ⊥
asks_alone p i a n h g = grind (arith, common_steps)

computes_alone : (p : PieceData) (i : Insn) (m : Option PieceData) (n : Option (PieceData × Cond))
    → Computes p i m → HasQuery p i n → ⊥
computes_alone p i m n h g = grind (arith, common_steps)

-- a piece has one instruction at hand
one_insn : (p : PieceData) (i j : Insn) → IsAtHand p i → IsAtHand p j → i ≡ j
one_insn p i j h k = at_same (code_at p) p.machine.place i j h.1 k.1

cant_side : (asked : PieceData × Cond) (s : Bool) → LeavesNeither asked
    → CantLearn asked.0.facts asked.0.pool (with_sense asked.1 s)
cant_side asked true h = h.true_cant
cant_side asked false h = h.false_cant

runs : (p : PieceData) (i : Insn) → IsAtHand p i → length p.stack ≤ p.machine.program → ⊥
runs p i at over = let running = at.0 in omega arith

-- Rules that have one result, and a piece with a lawful pool.
module _ (laws : HaveOneResult) (p : PieceData) (pool : IsPool p.pool) where
  -- an instruction asks for one thing, over a lawful pool
  query_same : (i : Insn) (a b : PieceData × Cond) → HasQuery p i (Some a) → HasQuery p i (Some b)
      → (a ≡ b) × IsPool a.0.pool
  query_same i a b h k =
      (same_Some a b (query_one laws p i (Some a) (Some b) pool h k), (query_more p i a h).lawful pool)

  no_query : (i : Insn) (a : PieceData × Cond) → HasQuery p i (Some a) → HasQuery p i None → ⊥
  no_query i a h k = let clash : Some a ≡ None = query_one laws p i (Some a) None pool h k in absurd cc

  -- an instruction makes of a piece one piece at most
  made_one : (i : Insn) (a b : PieceData) → MakesOf p i a → MakesOf p i b → a ≡ b
  made_one i a b (inl h) k = grind (arith, common_steps, moves_once, moves_alone, asks_alone)
  made_one i a b (inr (inl h)) k =
      let one = computes_one laws p i (Some a) (Some b) pool h in
      grind (arith, common_steps, same_Some, moves_alone, computes_alone, one)
  made_one i a b (inr (inr h)) (inl k) = absurd (asks_alone p i k.0 (Some h.0) k.1 h.2)
  made_one i a b (inr (inr h)) (inr (inl k)) = absurd (computes_alone p i (Some b) (Some h.0) k h.2)
  made_one i a b (inr (inr h)) (inr (inr k)) =
      let asked = query_same i h.0 k.0 h.2 k.2 in
      let same : h.1 ≡ k.1 = forced_one laws h.0 h.1 k.1 asked.1 h.3
      (subst (λ (x : PieceData × Cond). LeavesOnly x k.1) (sym asked.0) k.3) in
      named_one laws p i h.1 a b h.4 (subst (λ (s : Bool). IsNamedOn p i s b) (sym same) k.4)

  -- a piece goes on in one way at most
  one_on : (a b : PieceData) → GoesOn p a → GoesOn p b → a ≡ b
  one_on a b h k =
      made_one h.0 a b h.2 (subst (λ (j : Insn). MakesOf p j b) (sym (one_insn p h.0 k.0 h.1 k.1)) k.2)

  -- ---- the end

  -- what is split is not forced
  split_not_forced : (i : Insn) (a b : PieceData × Cond) (x y : PieceData) (s : Bool) → HasQuery p i (Some a)
      → HasQuery p i (Some b) → IsSide a i false x → IsSide a i true y → LeavesOnly b s → ⊥
  split_not_forced i a b x y s h k f t only =
      let asked = query_same i a b h k in
      by s asked.1 (subst (λ (z : PieceData × Cond). LeavesOnly z s) (sym asked.0) only)
    where
      by : (s : Bool) → IsPool a.0.pool → LeavesOnly a s → ⊥
      by true l only = can_or_cant laws a false l (x.facts, f.learns) only.cant
      by false l only = can_or_cant laws a true l (y.facts, t.learns) only.cant

  -- what ends doesn't go on
  split_stops : (x y b : PieceData) → SplitsInto p x y → GoesOn p b → ⊥
  split_stops x y b h k = by (subst (λ (j : Insn). MakesOf p j b) (sym (one_insn p h.0 k.0 h.2 k.1)) k.2)
    where
      by : MakesOf p h.0 b → ⊥
      by (inl m) = asks_alone p h.0 m.0 (Some h.1) m.1 h.3
      by (inr (inl m)) = computes_alone p h.0 (Some b) (Some h.1) m h.3
      by (inr (inr m)) = split_not_forced h.0 h.1 m.0 x y m.1 h.3 m.2 h.4 h.5 m.3

  empty_stops : (b : PieceData) → IsEmptied p → GoesOn p b → ⊥
  empty_stops b h k = by h.2 (subst (λ (j : Insn). MakesOf p j b) (sym (one_insn p h.0 k.0 h.1 k.1)) k.2)
    where
      by : Computes p h.0 None ⊎ HasQuery p h.0 None ⊎ ((asked : PieceData × Cond) × HasQuery p h.0 (Some asked)
          × LeavesNeither asked) → MakesOf p h.0 b → ⊥
      by (inl e) m =
          grind (arith, common_steps, moves_alone, computes_alone, computes_one laws p h.0 None (Some b) pool e)
      by (inr (inl e)) m = grind (arith, common_steps, asks_alone, computes_alone, no_query)
      by (inr (inr e)) (inl m) = asks_alone p h.0 m.0 (Some e.0) m.1 e.1
      by (inr (inr e)) (inr (inl m)) = computes_alone p h.0 (Some b) (Some e.0) m e.1
      by (inr (inr e)) (inr (inr m)) =
          let asked = query_same h.0 e.0 m.0 e.1 m.2 in
          can_or_cant laws e.0 m.1 asked.1 (subst (λ (z : PieceData × Cond). LeavesOnly z m.1) (sym asked.0) m.3).can
          (cant_side e.0 m.1 e.2)

  stops : (r b : PieceData) (step : StepData) (name : List Bool) → EndsAs r p step name → GoesOn p b → ⊥
  stops r b (Split x y) name h k = split_stops x y b h.0 k
  stops r b (Settled a) name h k = runs p k.0 k.1 h.0
  stops r b Empty name h k = empty_stops b h.0 k

  -- what is split isn't emptied
  split_not_empty : (x y : PieceData) → SplitsInto p x y → IsEmptied p → ⊥
  split_not_empty x y h k = by k.0 (one_insn p h.0 k.0 h.2 k.1) k.2
    where
      by : (j : Insn) → h.0 ≡ j → Computes p j None ⊎ HasQuery p j None
          ⊎ ((asked : PieceData × Cond) × HasQuery p j (Some asked) × LeavesNeither asked) → ⊥
      by j same (inl m) =
          computes_alone p j None (Some h.1) m (subst (λ (i : Insn). HasQuery p i (Some h.1)) same h.3)
      by j same (inr (inl m)) = no_query j h.1 (subst (λ (i : Insn). HasQuery p i (Some h.1)) same h.3) m
      by j same (inr (inr m)) =
          let asked = query_same j h.1 m.0 (subst (λ (i : Insn). HasQuery p i (Some h.1)) same h.3) m.1 in
          can_or_cant laws h.1 true asked.1 (y.facts, h.5.learns)
          (subst LeavesNeither (sym asked.0) m.2).true_cant

  -- a piece is split in one way at most
  one_split : (x y u v : PieceData) → SplitsInto p x y → SplitsInto p u v → Split x y ≡ Split u v
  one_split x y u v h k =
      let same = one_insn p h.0 k.0 h.2 k.2 in
      let asked = query_same h.0 h.1 k.1 h.3 (subst (λ (j : Insn). HasQuery p j (Some k.1)) (sym same) k.3) in
      let side : (s : Bool) (c : PieceData) → IsSide k.1 k.0 s c → IsSide h.1 h.0 s c
      = λ s c t. subst (λ (j : Insn). IsSide h.1 j s c) (sym same)
      (subst (λ (a : PieceData × Cond). IsSide a k.0 s c) (sym asked.0) t) in
      ap (λ (c : PieceData). Split c y) (side_one laws h.1 h.0 false x u asked.1 h.4 (side false u k.4))
      ∙ ap (Split u) (side_one laws h.1 h.0 true y v asked.1 h.5 (side true v k.5))

  -- a piece ends in one way at most
  one_end : (r : PieceData) (s t : StepData) (m n : List Bool) → EndsAs r p s m → EndsAs r p t n
      → (s ≡ t) × (m ≡ n)
  one_end r (Split x y) (Split u v) m n h k = (one_split x y u v h.0 k.0, h.1 ∙ sym k.1)
  one_end r (Settled a) (Settled b) m n h k = (ap Settled (h.1 ∙ sym k.1), h.2 ∙ sym k.2)
  one_end r Empty Empty m n h k = (refl, h.1 ∙ sym k.1)
  one_end r (Split x y) (Settled b) m n h k = absurd (runs p h.0.0 h.0.2 k.0)
  one_end r (Settled a) (Split u v) m n h k = absurd (runs p k.0.0 k.0.2 h.0)
  one_end r (Settled a) Empty m n h k = absurd (runs p k.0.0 k.0.1 h.0)
  one_end r Empty (Settled b) m n h k = absurd (runs p h.0.0 h.0.1 k.0)
  one_end r (Split x y) Empty m n h k = absurd (split_not_empty x y h.0 k.0)
  one_end r Empty (Split u v) m n h k = absurd (split_not_empty u v k.0 h.0)

-- ---- the step

one_run : (laws : HaveOneResult) (i j : ℕ) (p a b r : PieceData) (s t : StepData) (m n : List Bool) → IsPool p.pool
    → GoesOnFor i p a → GoesOnFor j p b → EndsAs r a s m → EndsAs r b t n → (s ≡ t) × (m ≡ n)
one_run laws zero zero p a b r s t m n pool x y h k =
    one_end laws p pool r s t m n (subst (λ (c : PieceData). EndsAs r c s m) x h)
    (subst (λ (c : PieceData). EndsAs r c t n) y k)
one_run laws zero (suc j) p a b r s t m n pool x y h k =
    absurd (stops laws p pool r y.0 s m (subst (λ (c : PieceData). EndsAs r c s m) x h) y.1)
one_run laws (suc i) zero p a b r s t m n pool x y h k =
    absurd (stops laws p pool r x.0 t n (subst (λ (c : PieceData). EndsAs r c t n) y k) x.1)
one_run laws (suc i) (suc j) p a b r s t m n pool x y h k =
    one_run laws i j x.0 a b r s t m n ((made_on p x.1.0 x.0 x.1.2).pool pool) x.2
    (subst (λ (c : PieceData). GoesOnFor j c b) (sym (one_on laws p pool x.0 y.0 x.1 y.1)) y.2) h k

-- A piece has one step at most.
pub one_step : (laws : HaveOneResult) (p : PieceData) (s t : StepData) (m n : List Bool) → IsPool p.pool
    → HasStep p s m → HasStep p t n → (s ≡ t) × (m ≡ n)
one_step laws p s t m n pool h k = one_run laws h.0 k.0 p h.1 k.1 p s t m n pool h.2 k.2 h.3 k.3
