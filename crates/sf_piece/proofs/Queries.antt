-- Pieces that take a truth value of the trace into their names.
use Rattle.sf_piece.proofs.Common.{common_steps, ◌≡◌, ℕ, zero, suc, ◌+◌, ◌-◌, ◌*◌, ◌<◌, Bool, true, false, List, [], ◌∷◌, ◌++◌, length, take, drop, map, Some, None, slice_get, refl, sym, ap, subst, ◌∙◌, inl, inr, arith, append_assoc, append-nil, if◌then◌else◌, ◌==◌, Contains, IsSome, flat_map, list_all, same_Some, length_push, Input, IsInput, passes, Div, Test, Insn, Alu, Branch, ReturnA, Operand, X, IsAt, contains_here, contains_there, State, Progress, goes, returns, stuck, insn_progress, outcome_from, run_for, operand_of, test_progress, met_by, return_of, trace_of, step_is, ends_from, option_map_some, put, Cond, value_of, is_met, FactsView, after_return, PieceData, is_member, concrete_state, met_of, number_from, AreNodesBelow, IsPiece, HasAtHand, NextIs, divided}
use Rattle.std.proofs.Common.{Option}
use Rattle.sf_piece.proofs.Moves.{made, stands_moved, stands_kept, stands_returned}
use Rattle.sf_piece.proofs.Kept.{Turned, at_same, none_pending, pre_short, returned_nodes, safe_moved}

-- ---- what the trace of a member goes on with

first_met : (n : ℕ) (code : List Insn) (d : Input) (s : State) (i : Insn) (o : List Bool × ℕ) → IsAt code s.place i
    → run_for n code d s ≡ Some o → (more : List Bool) × (o.0 ≡ met_of (insn_progress d s i) ++ more)
unfolding run_for
first_met zero code d s i o at e = absurd cc
first_met (suc n) code d s i o at e = by (insn_progress d s i)
    (sym (ap (outcome_from (run_for n code d)) (step_is code d s i at)) ∙ e)
  where
    by : (q : Progress) → outcome_from (run_for n code d) q ≡ Some o → (more : List Bool) × (o.0 ≡ met_of q ++ more)
    by (goes met t) e =
        let x = option_map_some (put met) (run_for n code d t) o e in
        (x.0.0, ap (λ (q : List Bool × ℕ). q.0) (sym x.2))
    by (returns met v) e = ([], ap (λ (q : List Bool × ℕ). q.0) (sym (same_Some (met, v) o e)) ∙ sym (append-nil met))
    by stuck e = absurd cc

split_there : (l : List Bool) (k : ℕ) (e : Bool) → slice_get l k ≡ Some e → l ≡ take k l ++ e ∷ drop (suc k) l
split_there [] k e h = absurd cc
split_there (x ∷ l) zero e h = ap (λ (y : Bool). y ∷ l) (same_Some x e h)
split_there (x ∷ l) (suc k) e h = ap (λ (t : List Bool). x ∷ t) (split_there l k e h)

take_there : (l : List Bool) (k : ℕ) (e : Bool) → slice_get l k ≡ Some e → take (suc k) l ≡ take k l ++ e ∷ []
take_there [] k e h = absurd cc
take_there (x ∷ l) zero e h = ap (λ (y : Bool). y ∷ []) (same_Some x e h)
take_there (x ∷ l) (suc k) e h = ap (λ (t : List Bool). x ∷ t) (take_there l k e h)

regroup : (base pre dr more flat : List Bool) (e : Bool) → base ++ (((pre ++ e ∷ dr) ++ more) ++ flat) ≡ (base ++ pre)
    ++ e ∷ (dr ++ (more ++ flat))
regroup base pre dr more flat e = grind (arith, common_steps, append_assoc)

pub taken_is : (p : PieceData) (i : Insn) (s : HasAtHand p i) (d : Input) → IsInput d → is_member p d ≡ true
    → s.pre ≡ take p.machine.taken (met_of (insn_progress d (concrete_state p.pool p.machine d) i))
taken_is p i s d inp member = grind (arith, common_steps, step_is)

pub entry_trace : (p : PieceData) (i : Insn) (b : Bool) → (s : HasAtHand p i) → (d : Input)
    → NextIs (insn_progress d (concrete_state p.pool p.machine d) i) p.machine.taken b → IsInput d
    → is_member p d ≡ true
    → (more : List Bool) × (trace_of p.stack d ≡ p.name ++ b ∷ more)
entry_trace p i b s d next inp member = by (run_for (length s.code) s.code d st) refl
    (ends_from (length s.code) s.code d st s.stands.laws.0 (s.stands.inside.safe d) (omega arith))
  where
    st : State
    st = concrete_state p.pool p.machine d

    by : (r : Option (List Bool × ℕ)) → run_for (length s.code) s.code d
        (concrete_state p.pool p.machine d) ≡ r → IsSome r
        → (more : List Bool) × (trace_of p.stack d ≡ p.name ++ b ∷ more)
    by None ran some = absurd cc
    by (Some o) ran some =
        let l = met_of (insn_progress d (concrete_state p.pool p.machine d) i) in
        let k = p.machine.taken in
        let first = first_met (length s.code) s.code d (concrete_state p.pool p.machine d) i o s.at ran in
        let flat = flat_map (λ (q : List Insn). met_by q d) s.later in
        let all = (s.stands.runs d inp member).ends (o.0 ++ flat) (o.1 ∷ map (λ (q : List Insn). return_of q d) s.later)
        (length s.code, o, ran, refl, refl) in
        let whole : l ≡ s.pre ++ b ∷ drop (suc k) l = search (arith, split_there, taken_is) in
        let met : o.0 ≡ (s.pre ++ b ∷ drop (suc k) l) ++ first.0 =
        first.1 ∙ ap (λ (t : List Bool). t ++ first.0) whole in (
          drop (suc k) l ++ (first.0 ++ flat),
          all.0 ∙ ap (λ (t : List Bool). s.base ++ (t ++ flat)) met
              ∙ regroup s.base s.pre (drop (suc k) l) first.0 flat b
              ∙ ap (λ (t : List Bool). t ++ b ∷ (drop (suc k) l ++ (first.0 ++ flat))) (sym s.stands.name_is),
        )

-- ---- where the run stands after it

-- the new piece's members are members of the old one, on which the next truth value is this
abbrev pub Meets : PieceData → Insn → List Cond → Bool → Type 0
Meets p i cs b = (d : Input) → IsInput d → list_all (is_met p.pool d) cs ≡ true → (is_member p d ≡ true)
    × NextIs (insn_progress d (concrete_state p.pool p.machine d) i) p.machine.taken b

number_push : (n : ℕ) (bs : List Bool) (b : Bool) → number_from n (bs ++ b ∷ []) ≡ 2 * number_from n bs
    + (if b then 1 else 0)
number_push n [] b = refl
number_push n (c ∷ bs) b = number_push (2 * n + (if c then 1 else 0)) bs b

same_nodes : (p : PieceData) (place taken value : ℕ) → AreNodesBelow (length p.pool) p.machine
    → AreNodesBelow (length p.pool) (record p.machine { place = place; taken = taken; value = value })
same_nodes p place taken value h = record { a = h.a; x = h.x; zero = h.zero; scratch = h.scratch }

div_true : (b e : Bool) (u : State) → NextIs (if b then returns (true ∷ []) 0 else goes (false ∷ []) u) 0 e → e ≡ true
    → (if b then returns (true ∷ []) 0 else goes (false ∷ []) u) ≡ returns (true ∷ []) 0
div_true b e u n is = grind (arith, common_steps, same_Some)

div_false : (b e : Bool) (u : State) → NextIs (if b then returns (true ∷ []) 0 else goes (false ∷ []) u) 0 e → e ≡ false
    → false ∷ [] ≡ take 1 (met_of (if b then returns (true ∷ []) 0 else goes (false ∷ []) u))
div_false b e u n is = grind (arith, common_steps, same_Some)

pub branch_turned : (p : PieceData) (test : Test) (other : Operand) (t f : ℕ) (b : Bool) (cs : List Cond)
    (fs : FactsView) → IsPiece p → (s : HasAtHand p (Branch test other t f)) → Meets p (Branch test other t f) cs b
    → Turned p (made p (p.name ++ b ∷ []) cs (record p.machine
    { place = p.machine.place + 1 + (if b then t else f) }) fs)
unfolding is_member
branch_turned p test other t f b cs fs h s narrow =
    let none = none_pending s.code p.machine.place p.machine.taken s.pre (Branch test other t f)
    s.stands.inside.pending s.at (λ is. cc) (λ is. cc) in
    record {
      rest = s.code ∷ s.later;
      base = s.base ++ b ∷ [];
      pre = [];
      stands = stands_moved p s.code s.later s.base s.pre (b ∷ []) (Branch test other t f) (p.name ++ b ∷ []) cs
          (record p.machine { place = p.machine.place + 1 + (if b then t else f) }) fs s.stands s.at
          (b, refl, refl) (ap (λ (l : List Bool). l ++ b ∷ []) (s.stands.name_is
          ∙ ap (λ (l : List Bool). s.base ++ l) none.1 ∙ append-nil s.base))
          refl refl none.0 (s.stands.number ∙ ap (number_from 0) none.1)
          (λ d. safe_moved s.code (concrete_state p.pool p.machine d)
          (record (concrete_state p.pool p.machine d) { place = p.machine.place + 1 + (if b then t else f) })
          (Branch test other t f) s.stands.laws.0 (s.stands.inside.safe d) s.at (leads b) refl refl)
          (λ d inp member.
          let g = narrow d inp member in
          let r = passes test (value_of p.pool d p.machine.a.0)
          (operand_of (concrete_state p.pool p.machine d) other) in
          let next : slice_get (r ∷ []) 0 ≡ Some b = subst (λ (k : ℕ). slice_get (r ∷ []) k ≡ Some b) none.0 g.1 in
          let is : r ≡ b = same_Some r b next in
          (g.0, ap (λ (v : Bool). test_progress (concrete_state p.pool p.machine d) v t f) is));
      nodes = same_nodes p (p.machine.place + 1 + (if b then t else f)) p.machine.taken p.machine.value h.nodes;
      zero_is = refl;
      falls = less (if b then t else f) s.small;
    }
  where
    leads : (b : Bool) → Contains ((p.machine.place + 1 + t) ∷ (p.machine.place + 1 + f) ∷ [])
        (p.machine.place + 1 + (if b then t else f))
    leads true = contains_here (p.machine.place + 1 + t) ((p.machine.place + 1 + f) ∷ []) (p.machine.place + 1 + t) refl
    leads false = contains_there (p.machine.place + 1 + t) ((p.machine.place + 1 + f) ∷ []) (p.machine.place + 1 + f)
        (contains_here (p.machine.place + 1 + f) [] (p.machine.place + 1 + f) refl)

    less : (n : ℕ) → p.machine.place < 4096 → 524288 * (length p.stack - p.machine.program)
        + 64 * (4096 - (p.machine.place + 1 + n)) + (33 - p.machine.taken)
        < 524288 * (length p.stack - p.machine.program) + 64 * (4096 - p.machine.place) + (33 - p.machine.taken)
    less n small = omega arith

pub return_turned : (p : PieceData) (b : Bool) (cs : List Cond) (fs : FactsView) → IsPiece p → (s : HasAtHand p ReturnA)
    → p.machine.taken < 32 → Meets p ReturnA cs b
    → Turned p (made p (p.name ++ b ∷ []) cs (record p.machine {
      taken = p.machine.taken + 1;
      value = 2 * p.machine.value + (if b then 1 else 0);
    }) fs)
unfolding is_member
return_turned p b cs fs h s more narrow =
    let len = (pre_short s.code p.machine.place p.machine.taken s.pre s.stands.inside.pending).1 in
    record {
      rest = s.code ∷ s.later;
      base = s.base;
      pre = s.pre ++ b ∷ [];
      stands = stands_kept p s.code s.later s.base s.pre b (p.name ++ b ∷ []) cs fs (p.machine.taken + 1)
          (2 * p.machine.value + (if b then 1 else 0)) s.stands refl
          (ap (λ (n : ℕ). 2 * n + (if b then 1 else 0)) s.stands.number ∙ sym (number_push 0 s.pre b))
          (inr (inl (s.at, omega arith, length_push s.pre b ∙ omega arith)))
          (λ d inp member.
          let g = narrow d inp member in
          let l = met_of (insn_progress d (concrete_state p.pool p.machine d) ReturnA) in
          let one : suc p.machine.taken ≡ p.machine.taken + 1 = omega arith in (
            g.0,
            ap (λ (t : List Bool). t ++ b ∷ []) (taken_is p ReturnA s d inp g.0)
                ∙ sym (take_there l p.machine.taken b g.1)
                ∙ ap (λ (k : ℕ). take k l) one ∙ ap (λ (q : Progress). take (p.machine.taken + 1) (met_of q))
                (sym (step_is s.code d (concrete_state p.pool p.machine d) ReturnA s.at)),
          ));
      nodes = same_nodes p p.machine.place (p.machine.taken + 1) (2 * p.machine.value + (if b then 1 else 0)) h.nodes;
      zero_is = refl;
      falls = omega arith;
    }

div_pending : (p : PieceData) (s : HasAtHand p (Alu Div X)) → p.machine.taken ≡ 0 → s.pre ≡ []
div_pending p s none = grind (arith, common_steps, at_same)

pub zero_turned : (p : PieceData) (cs : List Cond) (fs : FactsView) → IsPiece p → (s : HasAtHand p (Alu Div X))
    → p.machine.taken ≡ 0 → Meets p (Alu Div X) cs true
    → Turned p (made p (p.name ++ true ∷ []) cs (after_return p.machine 0) fs)
unfolding is_member
zero_turned p cs fs h s none narrow =
    let pre = div_pending p s none in
    record {
      rest = s.later;
      base = s.base ++ true ∷ [];
      pre = [];
      stands = stands_returned p s.code s.later s.base s.pre (true ∷ []) (Alu Div X) 0
          (p.name ++ true ∷ []) cs fs s.stands s.at (inl (refl, refl))
          (ap (λ (l : List Bool). l ++ true ∷ []) (s.stands.name_is ∙ ap (λ (l : List Bool). s.base ++ l) pre
          ∙ append-nil s.base)) s.zero
          (λ d inp member.
          let g = narrow d inp member in (
            g.0,
            div_true (value_of p.pool d p.machine.x.0 == 0) true (divided p d)
                (subst (λ (k : ℕ). NextIs (insn_progress d (concrete_state p.pool p.machine d) (Alu Div X)) k
                true) none g.1) refl,
          ));
      nodes = returned_nodes p 0 h.nodes;
      zero_is = refl;
      falls = omega (arith, s.running);
    }

pub nonzero_turned : (p : PieceData) (cs : List Cond) (fs : FactsView) → IsPiece p → (s : HasAtHand p (Alu Div X))
    → p.machine.taken ≡ 0 → Meets p (Alu Div X) cs false
    → Turned p (made p (p.name ++ false ∷ []) cs (record p.machine { taken = 1 }) fs)
unfolding is_member
nonzero_turned p cs fs h s none narrow =
    let pre = div_pending p s none in
    let one : s.pre ++ false ∷ [] ≡ false ∷ [] = ap (λ (l : List Bool). l ++ false ∷ []) pre in
    record {
      rest = s.code ∷ s.later;
      base = s.base;
      pre = s.pre ++ false ∷ [];
      stands = stands_kept p s.code s.later s.base s.pre false (p.name ++ false ∷ []) cs fs 1
          p.machine.value s.stands refl
          (s.stands.number ∙ ap (number_from 0) pre ∙ ap (number_from 0) (sym one)) (inr (inr (s.at, refl, one)))
          (λ d inp member.
          let g = narrow d inp member in (
            g.0,
            one ∙ div_false (value_of p.pool d p.machine.x.0 == 0) false (divided p d)
                (subst (λ (k : ℕ). NextIs (insn_progress d (concrete_state p.pool p.machine d) (Alu Div X)) k
                false) none g.1) refl
                ∙ ap (λ (q : Progress). take 1 (met_of q))
                (sym (step_is s.code d (concrete_state p.pool p.machine d) (Alu Div X) s.at)),
          ));
      nodes = same_nodes p p.machine.place 1 p.machine.value h.nodes;
      zero_is = refl;
      falls = omega arith;
    }
