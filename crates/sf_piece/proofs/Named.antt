-- Names, stacks, pools and words of what is made of a piece.
use Rattle.sf_piece.proofs.Common.{common_steps, append_assoc, append-nil, length-append, ◌≡◌, ℕ, zero, suc, ◌+◌, ◌≤◌, Bool, true, false, List, [], ◌∷◌, ◌++◌, length, refl, sym, ap, subst, ◌∙◌, inl, inr, arith, Option, if◌then◌else◌, same_Some, Insn, Alu, Branch, ReturnA, Operand, Constant, X, Cond, Node, Const, NodeId, IsPool, Then, SymbolicMachine, PieceData, Split, IsGiven, GetsOperand, with_machine, Loads, Computes, HasQuery, IsSide, MakesOf, GoesOnFor, SplitsInto, HasStep, IsBelow}
use Rattle.std.specs.Prelude.{Some}
use Rattle.sf_piece.specs.declared.machine.Register.TheVariants as register

-- ---- words

-- all stays but the pool and the facts; there is at most one node more, and the pool stays lawful
pub record IsMore (p q : PieceData) : Type 0 where
  pub rest : q ≡ record p { pool = q.pool; facts = q.facts }
  pub pool : length q.pool ≤ length p.pool + 1
  pub lawful : IsPool p.pool → IsPool q.pool

same_more : (p : PieceData) → IsMore p p
same_more p = record { rest = refl; pool = omega arith; lawful = λ l. l }

given_more : (p q : PieceData) (node : Node) (id : NodeId) → IsGiven p node q id → IsMore p q
given_more p q node id h = grind (arith, common_steps, length-append)

pub operand_more : (p : PieceData) (other : Operand) (given : PieceData × NodeId) → GetsOperand p other (Some given)
    → IsMore p given.0
operand_more p (Constant k) given h = given_more p given.0 (Const k) given.1 h
operand_more p X given h =
    subst (λ (g : PieceData × NodeId). IsMore p g.0) (sym (same_Some given (p, p.machine.x) h)) (same_more p)

-- where two steps give something, so did the first
both_gave : {A B : Type 0} (first : Option A → Type 0) (second : A → Option B → Type 0) (b : B)
    → Then first second (Some b) → (a : A) × first (Some a) × second a (Some b)
both_gave {A} {B} first second b h = grind (arith, common_steps)

pub query_more : (p : PieceData) (i : Insn) (asked : PieceData × Cond) → HasQuery p i (Some asked) → IsMore p asked.0
query_more p (Branch test other t f) asked h = grind (arith, common_steps, same_Some, operand_more, both_gave)
query_more p ReturnA asked h = grind (arith, common_steps, same_Some, given_more, both_gave)
query_more p (Alu op other) asked h = grind (arith, common_steps, same_Some, same_more)
query_more p _ asked h = absurd h

-- the piece goes on to the next instruction with a word that it made, with at most two nodes more
pub record HasWord (p q : PieceData) : Type 0 where
  pub stack : q.stack ≡ p.stack
  pub name : q.name ≡ p.name
  pub conditions : q.conditions ≡ p.conditions
  pub pool : length q.pool ≤ length p.pool + 2
  pub lawful : IsPool p.pool → IsPool q.pool
  pub program : q.machine.program ≡ p.machine.program
  pub place : q.machine.place ≡ p.machine.place + 1
  pub taken : q.machine.taken ≡ 0

-- so it does where what a piece with one node more is given one more, and the machine goes on
word_of : (p mid given q : PieceData) (m : SymbolicMachine) → IsMore p mid → IsMore mid given → q ≡ with_machine given m
    → m.program ≡ given.machine.program → m.place ≡ given.machine.place + 1 → m.taken ≡ 0 → HasWord p q
word_of p mid given q m one two same program place taken = grind (arith, common_steps)

loads_word : (p mid q : PieceData) (node : Node) → IsMore p mid
    → Loads mid register.A node (Some q) → HasWord p q
loads_word p mid q node more h = grind (arith, common_steps, same_Some, given_more, both_gave, word_of)

loads_x_word : (p q : PieceData) (k : ℕ) → Loads p register.X (Const k) (Some q) → HasWord p q
loads_x_word p q k h = grind (arith, common_steps, same_Some, same_more, given_more, both_gave, word_of)

pub computes_word : (p q : PieceData) (i : Insn) → Computes p i (Some q) → HasWord p q
computes_word p q i h = grind (arith, common_steps, same_more, operand_more, both_gave, loads_word, loads_x_word)

-- ---- names

-- a piece that has gone on has a name that goes on
pub record HasGoneOn (p q : PieceData) : Type 0 where
  pub on : List Bool
  pub name : q.name ≡ p.name ++ on
  pub stack : q.stack ≡ p.stack
  pub pool : IsPool p.pool → IsPool q.pool

pub made_on : (p : PieceData) (i : Insn) (q : PieceData) → MakesOf p i q → HasGoneOn p q
made_on p i q (inl m) = grind (arith, common_steps, append-nil)
made_on p i q (inr (inl m)) = grind (arith, common_steps, append-nil, computes_word)
made_on p i q (inr (inr m)) = grind (arith, common_steps)

goes_named : (n : ℕ) (p q : PieceData) → GoesOnFor n p q → HasGoneOn p q
goes_named zero p q h = grind (arith, common_steps, append-nil)
goes_named (suc n) p q h =
    grind (arith, common_steps, append_assoc, made_on p h.1.0 h.0 h.1.2, goes_named n h.0 q h.2)

-- the side of a split on which its query has this truth value
pub side_of : (q f t : PieceData) (s : SplitsInto q f t) (b : Bool) → IsSide s.1 s.0 b (if b then t else f)
side_of q f t s true = s.5
side_of q f t s false = s.4

-- both pieces of a split are named by what came, and then by their truth values
pub record AreNamedSides (r f t : PieceData) : Type 0 where
  pub on : List Bool
  pub name : (b : Bool) → (if b then t else f).name ≡ r.name ++ on ++ b ∷ []
  pub stack : (b : Bool) → (if b then t else f).stack ≡ r.stack
  pub pool : (b : Bool) → IsPool r.pool → IsPool (if b then t else f).pool

pub sides_named : (r f t : PieceData) (name : List Bool) → HasStep r (Split f t) name → AreNamedSides r f t
sides_named r f t name h = grind (arith, common_steps, query_more, goes_named, side_of)

pub below_named : (bs : List Bool) (r p : PieceData) → IsBelow bs r p → (on : List Bool) × (p.name ≡ r.name ++ on)
below_named [] r p h = ([], ap (λ (c : PieceData). c.name) h ∙ sym (append-nil r.name))
below_named (b ∷ bs) r p h =
    let sides = sides_named r h.0 h.1 r.name h.2 in
    let rest = below_named bs (if b then h.1 else h.0) p h.3 in (
      (sides.on ++ b ∷ []) ++ rest.0,
      rest.1 ∙ ap (λ (l : List Bool). l ++ rest.0) (sides.name b ∙ append_assoc r.name sides.on (b ∷ []))
          ∙ append_assoc r.name (sides.on ++ b ∷ []) rest.0,
    )

-- a piece below a side of a split is named by the way to that side
pub side_named : (r f t p : PieceData) (sides : AreNamedSides r f t) (b : Bool) (bs : List Bool)
    → IsBelow bs (if b then t else f) p → (more : List Bool) × (p.name ≡ r.name ++ sides.on ++ b ∷ more)
side_named r f t p sides b bs h =
    let rest = below_named bs (if b then t else f) p h in (
      rest.0,
      rest.1 ∙ ap (λ (l : List Bool). l ++ rest.0) (sides.name b) ∙ append_assoc (r.name ++ sides.on) (b ∷ []) rest.0,
    )
