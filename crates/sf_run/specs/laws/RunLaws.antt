-- Laws of runs: a lawful program is never stuck, and comes to one end.
use Rattle.std.proofs.lemmas.Grind.{common_steps}
use Rattle.std.proofs.Common.{◌≡◌, ◌≢◌, ℕ, zero, suc, ◌+◌, ◌<◌, ◌≤◌, get_or, Bool, true, false, List, [], ◌∷◌, ◌++◌, length, Option, Some, None, slice_get, refl, sym, ap, subst, ◌∙◌, inl, inr, arith, length-set, set}
use Rattle.std.specs.Prelude.{Contains, IsSome, option_map, slice_set, if◌then◌else◌, ◌==◌}
use Rattle.std.proofs.lemmas.Bool.{cases_eq}
use Rattle.std.proofs.lemmas.Option.{gets, same_Some, slice_get-get_or, slice_get_within}
use Rattle.sf_run.specs.Common.{Input, Div, apply, passes, Insn, LoadScratch, LoadXScratch, StoreA, StoreX, Alu, Negate, Jump, Branch, ReturnConstant, ReturnA, X, stored_by, loaded_by, successors, IsInRange, IsAt, Stores, IsLawfulProgram}
use Rattle.sf_check.specs.laws.ContainsLaws.{contains_here, contains_there, any_nil, any_cons}
use Rattle.sf_check.specs.laws.ProgramLaws.{successor_after, successors_inside, below_in}
use Rattle.sf_run.specs.Reachable.{put, Keeps, Moves, IsReachable}
use Rattle.sf_run.specs.Machine.{State, Progress, goes, returns, stuck, start, operand_of, load_progress, operation_progress, insn_progress, step, Outcome, outcome_from, run_for, outcome_of, return_of, met_by, with_a, with_x}

-- ---- one end

pub option_map_some : {X Y : Type 0} (f : X → Y) (o : Option X) (y : Y) → option_map f o ≡ Some y → (x : X)
    × (o ≡ Some x) × (f x ≡ y)
option_map_some f None y e = absurd cc
option_map_some f (Some x) y e = (x, refl, same_Some (f x) y e)

same_continued : (p : Progress) (f g : State → Outcome)
    → ((s : State) (o o' : List Bool × ℕ) → f s ≡ Some o → g s ≡ Some o' → o ≡ o') → (o o' : List Bool × ℕ)
    → outcome_from f p ≡ Some o → outcome_from g p ≡ Some o' → o ≡ o'
same_continued (goes met next) f g same o o' e e' =
    let a = option_map_some (put met) (f next) o e in
    let b = option_map_some (put met) (g next) o' e' in
    sym a.2 ∙ ap (put met) (same next a.0 b.0 a.1 b.1) ∙ b.2
same_continued (returns met v) f g same o o' e e' = sym (same_Some (met, v) o e) ∙ same_Some (met, v) o' e'
same_continued stuck f g same o o' e e' = absurd cc

-- runs that come to an end come to the same one, however many steps each may take
pub run_same : (n m : ℕ) (code : List Insn) (d : Input) (s : State) (o o' : List Bool × ℕ) → run_for n code d s ≡ Some o
    → run_for m code d s ≡ Some o' → o ≡ o'
unfolding run_for
run_same zero m code d s o o' e e' = absurd cc
run_same (suc n) zero code d s o o' e e' = absurd cc
run_same (suc n) (suc m) code d s o o' e e' =
    same_continued (step code d s) (run_for n code d) (run_for m code d) (λ t p q. run_same n m code d t p q) o o' e e'

-- ---- one step

-- at the place of an instruction the step executes it
pub step_is : (code : List Insn) (d : Input) (s : State) (i : Insn) → IsAt code s.place i
    → step code d s ≡ insn_progress d s i
step_is code d s i at = rw at refl

pub goes_is : (met met' : List Bool) (s t : State) → goes met s ≡ goes met' t → s ≡ t
goes_is met met' s t e = cc

keeps_same : (i : Insn) (old : List (Option ℕ)) → stored_by i ≡ None → Keeps i old old
keeps_same i old none = record { size = refl; kept = λ k n h. (n, h); stored = λ k h lt. absurd cc }

set_here : (old : List (Option ℕ)) (k : ℕ) (n : ℕ) → k < length old
    → slice_get (slice_set old k (Some n)) k ≡ Some (Some n)
set_here old k n lt = grind (arith, common_steps, gets)

set_other : (old : List (Option ℕ)) (k j n m : ℕ) → j ≢ k → slice_get old j ≡ Some (Some m)
    → slice_get (slice_set old k (Some n)) j ≡ Some (Some m)
set_other old k j n m ne h = grind (arith, common_steps, gets)

keeps_store : (i : Insn) (old : List (Option ℕ)) (k n : ℕ) → stored_by i ≡ Some k
    → Keeps i old (slice_set old k (Some n))
keeps_store i old k n at = record {
  size = length-set old k (Some n);
  kept = λ j m h. elim (cases_eq j k) [
    | inl e ↦ (n, rw e (set_here old k n (omega (arith, slice_get_within old j (Some m) h))))
    | inr ne ↦ (m, set_other old k j n m ne h)
  ];
  stored = λ j h lt. let same : k ≡ j = same_Some k j (sym at ∙ h) in
      (n, rw (← same) (set_here old k n (omega arith)));
}

-- what holds of a stuck step, and of the step with each number, holds of a load
pub loaded : (P : Progress → Type 0) (s : State) (k : ℕ) (f : ℕ → Progress) → P stuck → ((n : ℕ) → P (f n))
    → P (load_progress s k f)
loaded P s k f unset set_to = by (slice_get s.scratch k) refl
  where
    by : (w : Option (Option ℕ)) → slice_get s.scratch k ≡ w → P (load_progress s k f)
    by (Some (Some n)) at = rw at (set_to n)
    by (Some None) at = rw at unset
    by None at = rw at unset

-- what holds of both answers to the question whether X is 0 holds of a division by X
pub divided : (P : Bool → Progress → Type 0) (s : State) → P true (returns (true ∷ []) 0)
    → P false (goes (false ∷ []) (record s { place = s.place + 1; a = apply Div s.a s.x }))
    → P (s.x == 0) (operation_progress s Div X)
divided P s out on = by (s.x == 0)
  where
    by : (b : Bool) → P b (if b then returns (true ∷ []) 0
        else goes (false ∷ []) (record s { place = s.place + 1; a = apply Div s.a s.x }))
    by true = out
    by false = on

-- a step that goes on leads to a successor of the place, and keeps set scratch words set
pub moves : (d : Input) (s : State) (i : Insn) (met : List Bool) (next : State) → insn_progress d s i ≡ goes met next
    → Moves i s next
moves d s i met next e = by i e
  where
    on : (i : Insn) (met' : List Bool) (t : State) → goes met' t ≡ goes met next
        → Contains (successors s.place i) t.place → Keeps i s.scratch t.scratch → Moves i s next
    on i met' t e leads keeps =
        subst (Moves i s) (goes_is met' met t next e) (record { leads = leads; keeps = keeps })

    one : (n : ℕ) → Contains (n ∷ []) n
    one n = contains_here n [] n refl

    by : (i : Insn) → insn_progress d s i ≡ goes met next → Moves i s next
    by (LoadScratch k) e = loaded (λ p. p ≡ goes met next → Moves (LoadScratch k) s next) s k (with_a s)
        (λ f. absurd cc)
        (λ n f. on (LoadScratch k) _ _ f (one (s.place + 1)) (keeps_same (LoadScratch k) s.scratch refl)) e
    by (LoadXScratch k) e = loaded (λ p. p ≡ goes met next → Moves (LoadXScratch k) s next) s k (with_x s)
        (λ f. absurd cc)
        (λ n f. on (LoadXScratch k) _ _ f (one (s.place + 1)) (keeps_same (LoadXScratch k) s.scratch refl)) e
    by (StoreA k) e = on (StoreA k) _ _ e (one (s.place + 1)) (keeps_store (StoreA k) s.scratch k s.a refl)
    by (StoreX k) e = on (StoreX k) _ _ e (one (s.place + 1)) (keeps_store (StoreX k) s.scratch k s.x refl)
    by (Alu Div X) e = divided (λ b p. p ≡ goes met next → Moves (Alu Div X) s next) s (λ f. absurd cc)
        (λ f. on (Alu Div X) _ _ f (one (s.place + 1)) (keeps_same (Alu Div X) s.scratch refl)) e
    by (Jump k) e = on (Jump k) _ _ e (one (s.place + 1 + k)) (keeps_same (Jump k) s.scratch refl)
    by (Branch test other t f) e = on (Branch test other t f) _ _ e (leads (passes test s.a (operand_of s other)))
        (keeps_same (Branch test other t f) s.scratch refl)
      where
        leads : (b : Bool) → Contains (successors s.place (Branch test other t f)) (s.place + 1 + (if b then t else f))
        leads true = contains_here (s.place + 1 + t) ((s.place + 1 + f) ∷ []) (s.place + 1 + t) refl
        leads false = contains_there (s.place + 1 + t) ((s.place + 1 + f) ∷ []) (s.place + 1 + f)
            (one (s.place + 1 + f))
    by (ReturnConstant k) e = absurd cc
    by ReturnA e = absurd cc
    by i e = on i _ _ e (one (s.place + 1)) (keeps_same i s.scratch refl)

-- ---- never stuck

-- the start can be reached
pub safe_start : (code : List Insn) → 0 < length code → IsReachable code start
safe_start code some = record {
  inside = some;
  sixteen = refl;
  earlier = [];
  path = refl;
  set_words = λ k any. absurd (any_nil (Stores code k) any);
}

-- in a state that can be reached, a scratch word that the instruction loads is set
pub load_is_set : (code : List Insn) (s : State) (i : Insn) (k : ℕ) → IsLawfulProgram code → IsReachable code s
    → IsAt code s.place i
    → loaded_by i ≡ Some k → (n : ℕ) × (slice_get s.scratch k ≡ Some (Some n))
load_is_set code s i k lawful safe at loads =
    safe.set_words k (lawful.set s.place k safe.earlier (i, at, loads) safe.path)

stored_small : (i : Insn) (k : ℕ) → IsInRange i → stored_by i ≡ Some k → k < 16
stored_small (StoreA j) k small e = let same : j ≡ k = same_Some j k e in omega (arith, small)
stored_small (StoreX j) k small e = let same : j ≡ k = same_Some j k e in omega (arith, small)
stored_small _ k small e = absurd cc

-- a step from a state that can be reached leads to one that can be reached
pub safe_next : (code : List Insn) (d : Input) (s : State) (i : Insn) (met : List Bool) (next : State)
    → IsLawfulProgram code
    → IsReachable code s → IsAt code s.place i → insn_progress d s i ≡ goes met next → IsReachable code next
    × (s.place < next.place)
safe_next code d s i met next lawful safe at e =
    let m = moves d s i met next e in (
      record {
        inside = below_in (length code) (successors s.place i) next.place
            (successors_inside code s.place i at (lawful.inside s.place i at) lawful.ends) m.leads;
        sixteen = m.keeps.size ∙ safe.sixteen;
        earlier = s.place ∷ safe.earlier;
        path = ((i, at, m.leads), safe.path);
        set_words = λ k any. elim (any_cons (Stores code k) s.place safe.earlier any) [
          | inl here ↦
              let stores : stored_by i ≡ Some k = ap stored_by (same_Some i here.0 (sym at ∙ here.1)) ∙ here.2 in
              m.keeps.stored k stores (omega (
                arith,
                stored_small i k (lawful.in_range s.place i at) stores,
                safe.sixteen,
              ))
          | inr later ↦ let old = safe.set_words k later in m.keeps.kept k old.0 old.1
        ];
      },
      successor_after s.place i next.place m.leads,
    )

loaded_not_stuck : (s : State) (k : ℕ) (f : ℕ → Progress) → ((n : ℕ) → f n ≡ stuck → ⊥) → (n : ℕ)
    × (slice_get s.scratch k ≡ Some (Some n)) → load_progress s k f ≡ stuck → ⊥
loaded_not_stuck s k f fine (n, at) e = fine n (rw at at e)

-- no step is stuck where what the instruction loads is set
pub not_stuck : (d : Input) (s : State) (i : Insn)
    → ((k : ℕ) → loaded_by i ≡ Some k → (n : ℕ) × (slice_get s.scratch k ≡ Some (Some n)))
    → insn_progress d s i ≡ stuck → ⊥
not_stuck d s (LoadScratch k) fine e = loaded_not_stuck s k (with_a s) (λ n e. cc) (fine k refl) e
not_stuck d s (LoadXScratch k) fine e = loaded_not_stuck s k (with_x s) (λ n e. cc) (fine k refl) e
not_stuck d s (Alu Div X) fine e = divided (λ b p. p ≡ stuck → ⊥) s (λ f. cc) (λ f. cc) e
not_stuck d s _ fine e = cc

-- ---- comes to an end

-- a run of enough steps from a state that can be reached comes to an end
pub ends_from : (n : ℕ) (code : List Insn) (d : Input) (s : State) → IsLawfulProgram code → IsReachable code s
    → length code ≤ n + s.place → IsSome (run_for n code d s)
unfolding run_for
ends_from zero code d s lawful safe room = absurd (omega (arith, safe.inside))
ends_from (suc n) code d s lawful safe room =
    rw (step_is code d s i at) (by (λ t. ends_from n code d t lawful) (insn_progress d s i) refl)
  where
    i : Insn
    i = get_or code s.place Negate

    at : IsAt code s.place i
    at = slice_get-get_or code s.place Negate safe.inside

    mapped : {X Y : Type 0} (f : X → Y) (o : Option X) → IsSome o → IsSome (option_map f o)
    mapped f None h = absurd cc
    mapped f (Some x) h = refl

    by : ((t : State) → IsReachable code t → length code ≤ n + t.place → IsSome (run_for n code d t)) → (p : Progress)
        → insn_progress d s i ≡ p → IsSome (outcome_from (run_for n code d) p)
    by rest (goes met next) e =
        let on = safe_next code d s i met next lawful safe at e in
        mapped (put met) (run_for n code d next) (rest next on.0 (omega (arith, on.1)))
    by rest (returns met v) e = refl
    by rest stuck e = absurd (not_stuck d s i (λ k loads. load_is_set code s i k lawful safe at loads) e)

-- a lawful program returns
pub lawful_ends : (code : List Insn) (d : Input) → IsLawfulProgram code → IsSome (outcome_of code d)
unfolding outcome_of
lawful_ends code d lawful = ends_from (length code) code d start lawful (safe_start code lawful.some) (omega arith)

-- any run from the start that comes to an end is that of the program
pub outcome_is : (n : ℕ) (code : List Insn) (d : Input) (o : List Bool × ℕ) → IsLawfulProgram code
    → run_for n code d start ≡ Some o → outcome_of code d ≡ Some o
unfolding outcome_of
outcome_is n code d o lawful e = by (outcome_of code d) refl (lawful_ends code d lawful)
  where
    by : (r : Outcome) → outcome_of code d ≡ r → IsSome r → outcome_of code d ≡ Some o
    by None e' some = absurd cc
    by (Some o') e' some = rw e' (ap (λ p. Some p) (run_same (length code) n code d start o' o e' e))

-- a run from the start that comes to an end returns the program's value, and meets what the program meets
pub value_is : (n : ℕ) (code : List Insn) (d : Input) (o : List Bool × ℕ) → IsLawfulProgram code
    → run_for n code d start ≡ Some o → o.1 ≡ return_of code d
value_is n code d o lawful e = rw (outcome_is n code d o lawful e) refl

pub met_is : (n : ℕ) (code : List Insn) (d : Input) (o : List Bool × ℕ) → IsLawfulProgram code
    → run_for n code d start ≡ Some o → o.0 ≡ met_by code d
met_is n code d o lawful e = rw (outcome_is n code d o lawful e) refl

-- a run goes on by a step
pub run_more : (n : ℕ) (code : List Insn) (d : Input) (s : State) (i : Insn) (met : List Bool) (next : State)
    (o : List Bool × ℕ) → IsAt code s.place i → insn_progress d s i ≡ goes met next → run_for n code d next ≡ Some o
    → run_for (suc n) code d s ≡ Some (met ++ o.0, o.1)
unfolding run_for
run_more n code d s i met next o at e rest = rw (step_is code d s i at, e, rest) refl

pub run_ends : (code : List Insn) (d : Input) (s : State) (i : Insn) (met : List Bool) (v : ℕ) → IsAt code s.place i
    → insn_progress d s i ≡ returns met v → run_for 1 code d s ≡ Some (met, v)
unfolding run_for
run_ends code d s i met v at e = rw (step_is code d s i at, e) refl
