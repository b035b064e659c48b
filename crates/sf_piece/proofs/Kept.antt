-- Pieces that go on by an instruction.
use Rattle.sf_piece.proofs.Common.{common_steps, ◌≡◌, ℕ, zero, suc, ◌+◌, ◌*◌, ◌/◌, ◌%◌, ◌^◌, ◌<◌, ◌≤◌, Bool, true, false, List, [], ◌∷◌, ◌++◌, length, take, Some, None, slice_get, refl, sym, ap, subst, ◌∙◌, inl, inr, arith, if◌then◌else◌, nat_tests, ◌==◌, Contains, same_Some, mod-pow-add, Input, Div, Insn, Alu, ReturnConstant, ReturnA, X, successors, stored_by, IsAt, IsLawfulProgram, Stores, contains_here, any_cons, successors_inside, below_in, State, Progress, goes, returns, bits, insn_progress, step, safe_next, step_is, IsReachable, may_go, NodeId, value_of, value-small, SymbolicMachine, after_return, PieceData, is_member, concrete_state, met_of, number_from, IsPending, AreNodesBelow, StandsAt, IsPiece, HasAtHand, GoesTo, GoesBy, ReturnsNow, divided, work_left}
use Rattle.std.proofs.Common.{Option}
use Rattle.std.specs.Prelude.{replicate}
use Rattle.sf_piece.proofs.Moves.{made, stands_moved, stands_returned}

pub at_same : (code : List Insn) (place : ℕ) (i j : Insn) → IsAt code place i → IsAt code place j → i ≡ j
at_same code place i j p q = same_Some i j (sym p ∙ q)

-- an input that there is
pub some_input : Input
some_input = record { words = [] }

div_clash : (b : Bool) (u t : State) → (if b then returns (true ∷ []) 0 else goes (false ∷ []) u) ≡ goes [] t → ⊥
div_clash b u t e = grind (arith, common_steps)

-- as many truth values are in the name as are taken
pub pre_short : (code : List Insn) (place taken : ℕ) (pre : List Bool) → IsPending code place taken pre
    → (taken ≤ 32) × (length pre ≡ taken)
pre_short code place taken pre p = grind (arith, common_steps)

-- only a return of A and a division by X have truth values in the name while they are at hand
pub none_pending : (code : List Insn) (place taken : ℕ) (pre : List Bool) (i : Insn) → IsPending code place taken pre
    → IsAt code place i → (i ≡ ReturnA → ⊥) → (i ≡ Alu Div X → ⊥) → (taken ≡ 0) × (pre ≡ [])
none_pending code place taken pre i p at no_return no_division = grind (arith, common_steps, at_same)

-- where a step meets nothing, nothing of it is in the name
nothing_taken : (code : List Insn) (place taken : ℕ) (pre : List Bool) (i : Insn) (d : Input) (s t : State)
    → IsPending code place taken pre → IsAt code place i → insn_progress d s i ≡ goes [] t → pre ≡ []
nothing_taken code place taken pre i d s t pending at e = grind (arith, common_steps, none_pending, div_clash)

-- where the instruction leads, the state with the same scratch words is reachable
pub safe_moved : (code : List Insn) (s t : State) (i : Insn) → IsLawfulProgram code → IsReachable code s
    → IsAt code s.place i
    → Contains (successors s.place i) t.place → stored_by i ≡ None → t.scratch ≡ s.scratch → IsReachable code t
safe_moved code s t i lawful safe at leads none same = record {
  inside = search (arith, below_in, successors_inside);
  sixteen = ap length same ∙ safe.sixteen;
  earlier = s.place ∷ safe.earlier;
  path = ((i, at, leads), safe.path);
  set_words = λ k any. elim (any_cons (Stores code k) s.place safe.earlier any) [
    | inl here ↦ let clash : None ≡ Some k = search (arith, at_same) in absurd cc
    | inr later ↦ let old = safe.set_words k later in (old.0, ap (λ (l : List (Option ℕ)). slice_get l k) same ∙ old.1)
  ];
}

-- where a piece's run stands once it has turned to another machine, and that less is left to be done
pub record Turned (p q : PieceData) : Type 0 where
  pub rest : List (List Insn)
  pub base : List Bool
  pub pre : List Bool
  pub stands : StandsAt q rest base pre
  pub nodes : AreNodesBelow (length p.pool) q.machine
  pub zero_is : q.machine.zero ≡ p.machine.zero
  pub falls : work_left q < work_left p

abbrev pub gone : PieceData → SymbolicMachine → PieceData
gone p m = made p p.name p.conditions m p.facts

div_taken : (b : Bool) (u t : State) → false ∷ []
    ≡ take 1 (met_of (if b then returns (true ∷ []) 0 else goes (false ∷ []) u)) → t ≡ u
    → (if b then returns (true ∷ []) 0 else goes (false ∷ []) u) ≡ goes (false ∷ []) t
div_taken b u t e same = grind (arith, common_steps)

go_stands : (p : PieceData) (i : Insn) (m : SymbolicMachine) → IsPiece p → (s : HasAtHand p i)
    → GoesTo p i m → GoesBy p i m
    → ((base : List Bool) × StandsAt (gone p m) (s.code ∷ s.later) base []) × (p.machine.place < m.place)
unfolding is_member
go_stands p i m h s g (inl run) =
    let at0 = concrete_state p.pool p.machine some_input in
    let none = nothing_taken s.code p.machine.place p.machine.taken s.pre i some_input at0
    (concrete_state p.pool m some_input) s.stands.inside.pending s.at (run some_input) in (
      (
        s.base ++ [],
        stands_moved p s.code s.later s.base s.pre [] i p.name p.conditions m p.facts s.stands s.at
            (may_go some_input at0 i [] (concrete_state p.pool m some_input) (run some_input))
            (s.stands.name_is ∙ ap (λ (l : List Bool). s.base ++ l) none) g.program g.so_far g.taken g.value
            (λ d. (safe_next s.code d (concrete_state p.pool p.machine d) i []
            (concrete_state p.pool m d) s.stands.laws.0
            (s.stands.inside.safe d) s.at (run d)).0)
            (λ d inp member. (member, run d)),
      ),
      (safe_next s.code some_input at0 i [] (concrete_state p.pool m some_input) s.stands.laws.0
          (s.stands.inside.safe some_input) s.at (run some_input)).1,
    )
go_stands p i m h s g (inr (is, taken, to)) =
    let place : m.place ≡ p.machine.place + 1 = ap (λ (t : State). t.place) (to some_input) in
    let at : IsAt s.code p.machine.place (Alu Div X) = subst (λ (j : Insn). IsAt s.code p.machine.place j) is s.at in
    let pre = pending s.stands.inside.pending at taken in (
      (
        s.base ++ false ∷ [],
        stands_moved p s.code s.later s.base s.pre (false ∷ []) (Alu Div X) p.name p.conditions m p.facts s.stands at
            (inr (refl, ap (λ (n : ℕ). Some n) place))
            (s.stands.name_is ∙ ap (λ (l : List Bool). s.base ++ l) pre) g.program g.so_far g.taken g.value
            (λ d. safe_moved s.code (concrete_state p.pool p.machine d) (concrete_state p.pool m d)
            (Alu Div X) s.stands.laws.0
            (s.stands.inside.safe d) at
            (contains_here (p.machine.place + 1) [] m.place (sym place)) refl (ap (λ (t : State). t.scratch) (to d)))
            (λ d inp member.
            let f = (s.stands.runs d inp member).taken in (
              member,
              div_taken (value_of p.pool d p.machine.x.0 == 0) (divided p d) (concrete_state p.pool m d)
                  (sym pre ∙ f
                  ∙ ap (λ (k : ℕ). take k (met_of (step s.code d (concrete_state p.pool p.machine d)))) taken
                  ∙ ap (λ (q : Progress). take 1 (met_of q))
                  (step_is s.code d (concrete_state p.pool p.machine d) (Alu Div X) at)) (to d),
            )),
      ),
      omega arith,
    )
  where
    pending : IsPending s.code p.machine.place p.machine.taken s.pre → IsAt s.code p.machine.place (Alu Div X)
        → p.machine.taken ≡ 1 → s.pre ≡ false ∷ []
    pending q at one = grind (arith, common_steps, at_same)

pub go_turned : (p : PieceData) (i : Insn) (m : SymbolicMachine) → IsPiece p → HasAtHand p i → GoesTo p i m
    → Turned p (gone p m)
go_turned p i m h s g =
    let w = go_stands p i m h s g g.run in
    record {
      rest = s.code ∷ s.later;
      base = w.0.0;
      pre = [];
      stands = w.0.1;
      nodes = g.nodes;
      zero_is = g.zero;
      falls = rw (g.program, g.taken) (omega (arith, w.1, s.taken, s.small));
    }

-- ---- returns

bit_is : (t : ℕ) → t < 2 → (if t == 1 then 1 else 0) ≡ t
bit_is t h = grind (arith, nat_tests)

pub number_bits : (k n a : ℕ) → number_from n (bits k a) ≡ n * 2 ^ k + a % 2 ^ k
number_bits zero n a = omega arith
number_bits (suc k) n a =
    let t = a / 2 ^ k % 2 in
    let bit : (if a / 2 ^ k % 2 == 1 then 1 else 0) ≡ a / 2 ^ k % 2 = bit_is (a / 2 ^ k % 2) (omega arith) in
    let rest : number_from (2 * n + a / 2 ^ k % 2) (bits k a) ≡ (2 * n + a / 2 ^ k % 2) * 2 ^ k + a % 2 ^ k =
    number_bits k (2 * n + a / 2 ^ k % 2) a in
    let split : a % 2 ^ (1 + k) ≡ (a / 2 ^ k % 2 ^ 1) * 2 ^ k + a % 2 ^ k = mod-pow-add a 1 k in
    let sum : 1 + k ≡ suc k = omega arith in
    let split' : a % 2 ^ suc k ≡ (a / 2 ^ k % 2) * 2 ^ k + a % 2 ^ k = rw sum at split in
    let pow : 2 ^ suc k ≡ 2 * 2 ^ k = omega arith in
    ap (λ (v : ℕ). number_from (2 * n + v) (bits k a)) bit
    ∙ (rest ∙ finish (2 ^ k) (2 ^ suc k) (a / 2 ^ k % 2) (a % 2 ^ k) (a % 2 ^ suc k) pow split')
  where
    finish : (q r t u v : ℕ) → r ≡ 2 * q → v ≡ t * q + u → (2 * n + t) * q + u ≡ n * r + v
    finish q r t u v e f = rw (e, f) (omega arith)

return_stands : (p : PieceData) (i : Insn) (v : ℕ) → IsPiece p → (s : HasAtHand p i) → ReturnsNow p i v
    → (base : List Bool) × StandsAt (gone p (after_return p.machine v)) s.later base []
unfolding is_member
return_stands p i v h s (inl is) =
    let at : IsAt s.code p.machine.place (ReturnConstant v) = rw is at s.at in
    let none = (none_pending s.code p.machine.place p.machine.taken s.pre (ReturnConstant v) s.stands.inside.pending at
    (λ is. cc) (λ is. cc)).1 in (
      s.base ++ [],
      stands_returned p s.code s.later s.base s.pre [] (ReturnConstant v) v p.name p.conditions p.facts
          s.stands at (refl, refl)
          (s.stands.name_is ∙ ap (λ (l : List Bool). s.base ++ l) none) s.zero (λ d inp member. (member, refl)),
    )
return_stands p i v h s (inr (is, full, same)) =
    let at : IsAt s.code p.machine.place ReturnA = subst (λ (j : Insn). IsAt s.code p.machine.place j) is s.at in
    let len = (pre_short s.code p.machine.place p.machine.taken s.pre s.stands.inside.pending).1 ∙ full in (
      s.base ++ s.pre,
      stands_returned p s.code s.later s.base s.pre s.pre ReturnA v p.name p.conditions p.facts s.stands at (len, refl)
          s.stands.name_is s.zero
          (λ d inp member.
          let a = value_of p.pool d p.machine.a.0 in
          let f = (s.stands.runs d inp member).taken in
          let met : s.pre ≡ bits 32 a = search (arith, step_is) in
          let word : a < 2 ^ 32 = value-small p.pool d p.machine.a.0 h.pool inp in
          let spelt : number_from 0 (bits 32 a) ≡ 0 * 2 ^ 32 + a % 2 ^ 32 = number_bits 32 0 a in
          let value : v ≡ a = same ∙ s.stands.number ∙ ap (number_from 0) met ∙ spelt ∙ omega arith in
          (member, returns_are (sym met) (sym value))),
    )
  where
    returns_are : {l l' : List Bool} {n n' : ℕ} → l ≡ l' → n ≡ n' → returns l n ≡ returns l' n'
    returns_are e f = cc

-- no scratch word is set at the start
pub none_set : (n k : ℕ) (w : NodeId) → slice_get (replicate n None) k ≡ Some (Some w) → ⊥
none_set zero k w e = cc
none_set (suc n) zero w e = cc
none_set (suc n) (suc k) w e = none_set n k w e

pub returned_nodes : (p : PieceData) (v : ℕ) → AreNodesBelow (length p.pool) p.machine
    → AreNodesBelow (length p.pool) (after_return p.machine v)
returned_nodes p v b = record { a = b.zero; x = b.zero; zero = b.zero; scratch = λ k w e. absurd (none_set 16 k w e) }

pub left_turned : (p : PieceData) (i : Insn) (v : ℕ) → IsPiece p → HasAtHand p i → ReturnsNow p i v
    → Turned p (gone p (after_return p.machine v))
left_turned p i v h s r =
    let w = return_stands p i v h s r in
    record {
      rest = s.later;
      base = w.0;
      pre = [];
      stands = w.1;
      nodes = returned_nodes p v h.nodes;
      zero_is = refl;
      falls = omega (arith, s.running);
    }
