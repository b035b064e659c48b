-- The rules reach one piece of a name at most.
use Rattle.sf_piece.proofs.Common.{length-append, ◌≡◌, ℕ, ◌<◌, Bool, true, false, List, [], ◌∷◌, ◌++◌, length, refl, sym, ap, subst, ◌∙◌, inl, inr, arith, if◌then◌else◌, cases_lt, ext_get_or, Insn, Cond, Node, Const, IsPool, node_at, FactsView, StartsBy, HaveOneResult, SymbolicMachine, PieceData, Split, HasStep, IsFirst, IsBelow, IsInTree, first_machine}
use Rattle.sf_piece.proofs.Named.{AreNamedSides, side_named, sides_named}
use Rattle.sf_piece.proofs.OneMade.{same_id}
use Rattle.sf_piece.proofs.OneStep.{one_step}

-- one and the same list doesn't go on with false and with true
no_fork : (xs bs cs : List Bool) → xs ++ false ∷ bs ≡ xs ++ true ∷ cs → ⊥
no_fork [] bs cs e = let clash : false ∷ bs ≡ true ∷ cs = e in absurd cc
no_fork (a ∷ xs) bs cs e =
    let f : a ∷ (xs ++ false ∷ bs) ≡ a ∷ (xs ++ true ∷ cs) = e in
    let g : xs ++ false ∷ bs ≡ xs ++ true ∷ cs = cc in no_fork xs bs cs g

-- a piece isn't named as one below it
longer : (b : Bool) (bs : List Bool) (r p : PieceData) → IsBelow (b ∷ bs) r p → r.name ≡ p.name → ⊥
longer b bs r p h e =
    let sides = sides_named r h.0 h.1 r.name h.2 in
    let more = side_named r h.0 h.1 p sides b bs h.3 in
    omega (
      arith,
      ap (λ (l : List Bool). length l) (e ∙ more.1),
      length-append (r.name ++ sides.on) (b ∷ more.0),
      length-append r.name sides.on,
    )

-- a piece on the false side isn't named as one on the true side
apart : (r f t p q : PieceData) (bs cs : List Bool) → AreNamedSides r f t → IsBelow bs f p → IsBelow cs t q
    → p.name ≡ q.name → ⊥
apart r f t p q bs cs sides h k e =
    let one = side_named r f t p sides false bs h in
    let two = side_named r f t q sides true cs k in no_fork (r.name ++ sides.on) one.0 two.0 (sym one.1 ∙ e ∙ two.1)

-- pieces of one name, below one piece, are the same
one_below : (laws : HaveOneResult) (bs cs : List Bool) (r p q : PieceData) → IsPool r.pool → IsBelow bs r p
    → IsBelow cs r q → p.name ≡ q.name → p ≡ q
one_below laws [] [] r p q pool h k e = h ∙ sym k
one_below laws [] (c ∷ cs) r p q pool h k e = absurd (longer c cs r q k (sym (ap (λ (x : PieceData). x.name) h) ∙ e))
one_below laws (b ∷ bs) [] r p q pool h k e =
    absurd (longer b bs r p h (sym (ap (λ (x : PieceData). x.name) k) ∙ sym e))
one_below laws (b ∷ bs) (c ∷ cs) r p q pool h k e =
    let one : Split h.0 h.1 ≡ Split k.0 k.1 =
    (one_step laws r (Split h.0 h.1) (Split k.0 k.1) r.name r.name pool h.2 k.2).0 in
    let left : h.0 ≡ k.0 = cc in
    let right : h.1 ≡ k.1 = cc in
    let sides = sides_named r h.0 h.1 r.name h.2 in
    by b c sides (λ s x y. one_below laws bs cs (if s then h.1 else h.0) p q (sides.pool s pool) x y e) h.3
    (subst (λ (x : PieceData). IsBelow cs (if c then h.1 else x) q) (sym left)
    (subst (λ (y : PieceData). IsBelow cs (if c then y else k.0) q) (sym right) k.3))
  where
    by : (u v : Bool) → AreNamedSides r h.0 h.1 → ((s : Bool) → IsBelow bs (if s then h.1 else h.0) p
        → IsBelow cs (if s then h.1 else h.0) q → p ≡ q) → IsBelow bs (if u then h.1 else h.0) p
        → IsBelow cs (if v then h.1 else h.0) q → p ≡ q
    by false false sides both x y = both false x y
    by true true sides both x y = both true x y
    by false true sides both x y = absurd (apart r h.0 h.1 p q bs cs sides x y e)
    by true false sides both x y = absurd (apart r h.0 h.1 q p cs bs sides y x (sym e))

-- ---- the first piece

abbrev pub piece_of : List (List Insn) → List Bool → List Node → List Cond → SymbolicMachine → FactsView → PieceData
piece_of stack name pool conditions machine facts = record {
  stack = stack;
  name = name;
  pool = pool;
  conditions = conditions;
  machine = machine;
  facts = facts;
}

rebuilt : (s t : List (List Insn)) (m n : List Bool) (ns ks : List Node) (cs ds : List Cond) (a b : SymbolicMachine)
    (f g : FactsView) → s ≡ t → m ≡ n → ns ≡ ks → cs ≡ ds → a ≡ b → f ≡ g
    → piece_of s m ns cs a f ≡ piece_of t n ks ds b g
rebuilt s t m n ns ks cs ds a b f g e1 e2 e3 e4 e5 e6 = cc

-- a stack has one first piece
first_one : (laws : HaveOneResult) (stack : List (List Insn)) (p q : PieceData) → IsFirst stack p → IsFirst stack q
    → p ≡ q
first_one laws stack p q h k =
    let node : (i : ℕ) → i < 17 → node_at p.pool i ≡ node_at q.pool i = λ i l. elim (cases_lt i 16) [
      | inl w ↦ h.pool.word i w ∙ sym (k.pool.word i w)
      | inr g ↦ (let last : i ≡ 16 = omega (arith, g, l) in rw last (h.zero ∙ sym k.zero))
    ] in
    let pools : p.pool ≡ q.pool = ext_get_or (Const 0) p.pool q.pool (h.count ∙ sym k.count)
    (λ i l. node i (omega (arith, l, h.count))) in
    let zeros : p.machine.zero ≡ q.machine.zero = same_id p.machine.zero q.machine.zero (h.place ∙ sym k.place) in
    let machines : p.machine ≡ q.machine = h.machine ∙ ap first_machine zeros ∙ sym k.machine in
    rebuilt p.stack q.stack p.name q.name p.pool q.pool p.conditions q.conditions p.machine q.machine p.facts q.facts
    (h.stack_is ∙ sym k.stack_is) (h.name ∙ sym k.name) pools (h.conditions ∙ sym k.conditions) machines
    (laws.started p.facts q.facts p.pool h.pool h.facts
    (subst (λ (ns : List Node). StartsBy q.facts ns) (sym pools) k.facts))

-- The rules reach one piece of a name at most.
pub one_piece : (laws : HaveOneResult) (p q : PieceData) → IsInTree p → IsInTree q → p.stack ≡ q.stack
    → p.name ≡ q.name → p ≡ q
one_piece laws p q h k of e =
    let starts : IsFirst p.stack k.first = subst (λ (s : List (List Insn)). IsFirst s k.first) (sym of) k.starts in
    let first = first_one laws p.stack h.first k.first h.starts starts in
    one_below laws h.sides k.sides h.first p q h.starts.pool h.below
    (subst (λ (x : PieceData). IsBelow k.sides x q) (sym first) k.below) e

-- the pool of a piece of the tree is lawful
below_pool : (bs : List Bool) (r p : PieceData) → IsPool r.pool → IsBelow bs r p → IsPool p.pool
below_pool [] r p pool h = subst (λ (x : PieceData). IsPool x.pool) (sym h) pool
below_pool (b ∷ bs) r p pool h =
    below_pool bs (if b then h.1 else h.0) p ((sides_named r h.0 h.1 r.name h.2).pool b pool) h.3

pub reached_pool : (p : PieceData) → IsInTree p → IsPool p.pool
reached_pool p h = below_pool h.sides h.first p h.starts.pool h.below

below_more : (bs : List Bool) (b : Bool) (r p f t : PieceData) → IsBelow bs r p → HasStep p (Split f t) p.name
    → IsBelow (bs ++ b ∷ []) r (if b then t else f)
below_more [] b r p f t h k =
    let here : HasStep r (Split f t) r.name = subst (λ (x : PieceData). HasStep x (Split f t) x.name) h k in
    (f, t, here, refl)
below_more (c ∷ bs) b r p f t h k = (h.0, h.1, h.2, below_more bs b (if c then h.1 else h.0) p f t h.3 k)

-- the pieces of a split are reached
pub sides_reached : (p f t : PieceData) → IsInTree p → HasStep p (Split f t) p.name → IsInTree f × IsInTree t
sides_reached p f t h k =
    let named = sides_named p f t p.name k in
    let side : (b : Bool) → IsInTree (if b then t else f) = λ b. record {
      first = h.first;
      starts = subst (λ (s : List (List Insn)). IsFirst s h.first) (sym (named.stack b)) h.starts;
      sides = h.sides ++ b ∷ [];
      below = below_more h.sides b h.first p f t h.below k;
    } in
    (side false, side true)
