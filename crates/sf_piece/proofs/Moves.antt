-- Where a piece's run stands after a step.
use Rattle.sf_piece.proofs.Common.{common_steps, ◌≡◌, ℕ, zero, suc, ◌+◌, Bool, true, List, [], ◌∷◌, ◌++◌, length, take, drop, map, reverse, get_or, Some, None, refl, sym, ap, subst, ◌∙◌, inl, arith, append_assoc, append-nil, IsSome, flat_map, AllByRecursion, Input, IsInput, Insn, IsAt, IsLawfulProgram, Answer, State, goes, returns, start, insn_progress, step, Outcome, run_for, outcome_of, met_by, return_of, IsAnswer, answer_more, MayMeet, returns_at, goes_on, AreWays, IsWholeRoute, safe_start, run_more, run_ends, run_same, lawful_ends, IsReachable, Cond, Node, value_of, FactsView, SymbolicMachine, after_return, PieceData, is_member, concrete_state, met_of, number_from, IsPending, InProgram, RouteFrom, RunsOn, HasTaken, StandsAt}

-- a piece of the same stack and pool
abbrev pub made : PieceData → List Bool → List Cond → SymbolicMachine → FactsView → PieceData
made p name cs m fs = record { stack = p.stack; name = name; pool = p.pool; conditions = cs; machine = m; facts = fs }

-- ---- on in the same program

pub stands_moved : (p : PieceData) (code : List Insn) (later : List (List Insn)) (base pre met : List Bool) (i : Insn)
    (name : List Bool) (cs : List Cond) (m : SymbolicMachine) (fs : FactsView)
    → StandsAt p (code ∷ later) base pre → IsAt code p.machine.place i → MayMeet p.machine.place i met (Some m.place)
    → name ≡ base ++ met
    → m.program ≡ p.machine.program → m.so_far ≡ p.machine.so_far → m.taken ≡ 0 → m.value ≡ 0
    → ((d : Input) → IsReachable code (concrete_state p.pool m d))
    → ((d : Input) → IsInput d → is_member (made p name cs m fs) d ≡ true → (is_member p d ≡ true)
    × (insn_progress d (concrete_state p.pool p.machine d) i ≡ goes met (concrete_state p.pool m d)))
    → StandsAt (made p name cs m fs) (code ∷ later) (base ++ met) []
stands_moved p code later base pre met i name cs m fs s at may named program so_far taken value safe run = record {
  rest_is = ap (λ (n : ℕ). drop n (reverse p.stack)) program ∙ s.rest_is;
  laws = s.laws;
  name_is = named ∙ sym (append-nil (base ++ met));
  number = value;
  inside = record { safe = safe; pending = inl (taken, refl) };
  route = λ more (way, on, first, others, e).
      subst (IsWholeRoute p.stack) (sym (append_assoc base met more))
      (s.route (met ++ more) (
        met ++ way,
        on,
        goes_on i met m.place way at may first refl,
        others,
        ap (λ (l : List Bool). met ++ l) e ∙ sym (append_assoc met way on),
      ));
  runs = λ d inp member.
      let h = run d inp member in
      let f = s.runs d inp h.0 in
      record {
        ends = λ more vs (n, o, ran, e, v).
            let all = f.ends (met ++ more) vs (
              suc n,
              (met ++ o.0, o.1),
              run_more n code d (concrete_state p.pool p.machine d) i met (concrete_state p.pool m d) o at h.1 ran,
              ap (λ (l : List Bool). met ++ l) e ∙ sym (append_assoc met o.0 (flat_map (λ q. met_by q d) later)),
              v,
            ) in (
              all.0 ∙ sym (append_assoc base met more),
              (all.1.0, all.1.1, subst (λ (a : Answer). IsAnswer all.1.0 a) (sym so_far) all.1.2),
            );
        taken = ap (λ (k : ℕ). take k (met_of (step code d (concrete_state p.pool m d)))) (sym taken);
      };
}

-- ---- more truth values of the instruction at hand

pub stands_kept : (p : PieceData) (code : List Insn) (later : List (List Insn)) (base pre : List Bool) (b : Bool)
    (name : List Bool) (cs : List Cond) (fs : FactsView) (taken value : ℕ)
    → StandsAt p (code ∷ later) base pre → name ≡ p.name ++ b ∷ [] → value ≡ number_from 0 (pre ++ b ∷ [])
    → IsPending code p.machine.place taken (pre ++ b ∷ [])
    → ((d : Input) → IsInput d → is_member (made p name cs (record p.machine { taken = taken; value = value }) fs) d
    ≡ true → (is_member p d ≡ true) × (pre ++ b ∷ [] ≡ take taken
    (met_of (step code d (concrete_state p.pool p.machine d)))))
    → StandsAt (made p name cs (record p.machine { taken = taken; value = value }) fs)
    (code ∷ later) base (pre ++ b ∷ [])
stands_kept p code later base pre b name cs fs taken value s named number pending run = record {
  rest_is = s.rest_is;
  laws = s.laws;
  name_is = named ∙ ap (λ (l : List Bool). l ++ b ∷ []) s.name_is ∙ append_assoc base pre (b ∷ []);
  number = number;
  inside = record { safe = s.inside.safe; pending = pending };
  route = s.route;
  runs = λ d inp member.
      let h = run d inp member in
      let f = s.runs d inp h.0 in
      record { ends = f.ends; taken = h.1 };
}

-- ---- on to the next program

pub outcome_same : (code : List Insn) (d : Input) (n : ℕ) (o : List Bool × ℕ) → IsLawfulProgram code
    → run_for n code d start ≡ Some o → (o.0 ≡ met_by code d) × (o.1 ≡ return_of code d)
unfolding outcome_of
outcome_same code d n o lawful e = by (outcome_of code d) refl (lawful_ends code d lawful)
  where
    by : (r : Outcome) → outcome_of code d ≡ r → IsSome r → (o.0 ≡ met_by code d) × (o.1 ≡ return_of code d)
    by None is some = absurd cc
    by (Some o') is some =
        let alike : o ≡ o' = run_same n (length code) code d start o o' e is in
        (rw is (ap (λ (q : List Bool × ℕ). q.0) alike), rw is (ap (λ (q : List Bool × ℕ). q.1) alike))

-- what programs that start meet and return
pub runs_whole : (later : List (List Insn)) (d : Input) (s : State) (more : List Bool) (vs : List ℕ) → s ≡ start
    → AllByRecursion IsLawfulProgram later → RunsOn later d s more vs → (more ≡ flat_map (λ q. met_by q d) later)
    × (vs ≡ map (λ q. return_of q d) later)
runs_whole [] d s more vs at laws (e, v) = (e, v)
runs_whole (code ∷ later) d s more vs at laws (n, o, ran, e, v) = grind (arith, common_steps, outcome_same)

pub route_whole : (later : List (List Insn)) (more : List Bool) → RouteFrom later 0 more → AreWays later more
route_whole [] more r = r
route_whole (code ∷ later) more r = r

-- what is left of a list begins with the element at that place
pub drop_cons : (n : ℕ) (xs : List (List Insn)) (x : List Insn) (ys : List (List Insn)) → drop n xs ≡ x ∷ ys
    → (x ≡ get_or xs n []) × (drop (n + 1) xs ≡ ys)
drop_cons zero [] x ys e = absurd cc
drop_cons zero (z ∷ xs) x ys e =
    let f : z ∷ xs ≡ x ∷ ys = e in let g : x ≡ z = cc in let h : xs ≡ ys = cc in (g, h)
drop_cons (suc n) [] x ys e = absurd cc
drop_cons (suc n) (z ∷ xs) x ys e =
    let rest = drop_cons n xs x ys e in
    let k : suc n + 1 ≡ suc (n + 1) = omega arith in (rest.0, ap (λ (j : ℕ). drop j (z ∷ xs)) k ∙ rest.1)

-- where the next program starts, or there is none
pub starts_in : (rest : List (List Insn)) (pool : List Node) (m : SymbolicMachine)
    → ((d : Input) → concrete_state pool m d ≡ start) → m.taken ≡ 0 → AllByRecursion IsLawfulProgram rest
    → InProgram rest pool m []
starts_in [] pool m at none laws = refl
starts_in (c ∷ rest) pool m at none laws = record {
  safe = λ d. subst (IsReachable c) (sym (at d)) (safe_start c laws.0.some);
  pending = inl (none, refl);
}

pub none_taken : (rest : List (List Insn)) (d : Input) (s : State) → HasTaken rest d s 0 []
none_taken [] d s = tt
none_taken (c ∷ rest) d s = refl

pub stands_returned : (p : PieceData) (code : List Insn) (later : List (List Insn)) (base pre met : List Bool)
    (i : Insn) (v : ℕ) (name : List Bool) (cs : List Cond) (fs : FactsView)
    → StandsAt p (code ∷ later) base pre → IsAt code p.machine.place i → MayMeet p.machine.place i met None
    → name ≡ base ++ met
    → ((d : Input) → value_of p.pool d p.machine.zero.0 ≡ 0)
    → ((d : Input) → IsInput d → is_member (made p name cs (after_return p.machine v) fs) d ≡ true
    → (is_member p d ≡ true)
    × (insn_progress d (concrete_state p.pool p.machine d) i ≡ returns met v))
    → StandsAt (made p name cs (after_return p.machine v) fs) later (base ++ met) []
stands_returned p code later base pre met i v name cs fs s at may named zeros run = record {
  rest_is = (drop_cons p.machine.program (reverse p.stack) code later s.rest_is).1;
  laws = s.laws.1;
  name_is = named ∙ sym (append-nil (base ++ met));
  number = refl;
  inside = starts_in later p.pool (after_return p.machine v) at_start refl s.laws.1;
  route = λ more r.
      subst (IsWholeRoute p.stack) (sym (append_assoc base met more))
      (s.route (met ++ more) (met, more, returns_at i at may, route_whole later more r, refl));
  runs = λ d inp member.
      let h = run d inp member in
      let f = s.runs d inp h.0 in
      record {
        ends = λ more vs r.
            let whole = runs_whole later d (concrete_state p.pool (after_return p.machine v) d) more vs
            (at_start d) s.laws.1 r in
            let all = f.ends (met ++ more) (v ∷ vs) (
              1,
              (met, v),
              run_ends code d (concrete_state p.pool p.machine d) i met v at h.1,
              ap (λ (l : List Bool). met ++ l) whole.0,
              ap (λ (l : List ℕ). v ∷ l) whole.1,
            ) in (
              all.0 ∙ sym (append_assoc base met more),
              (
                all.1.0 ++ v ∷ [],
                all.1.1 ∙ sym (append_assoc all.1.0 (v ∷ []) vs),
                answer_more all.1.0 p.machine.so_far v all.1.2,
              ),
            );
        taken = none_taken later d (concrete_state p.pool (after_return p.machine v) d);
      };
}
  where
    at_start : (d : Input) → concrete_state p.pool (after_return p.machine v) d ≡ start
    at_start d = rw (zeros d) refl
