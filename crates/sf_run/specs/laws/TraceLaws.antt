-- Each trace of a lawful stack is a whole route.
use Rattle.std.proofs.Common.{◌≡◌, ℕ, zero, suc, ◌-◌, get_or, Bool, List, [], ◌∷◌, length, Option, Some, None, slice_get, refl, sym, ap, subst, inl, inr}
use Rattle.std.specs.Prelude.{reverse, IsSome}
use Rattle.sf_run.specs.Common.{flat_map, AllByRecursion, IsLawfulStack, Input, Div, passes, Insn, LoadScratch, LoadXScratch, Alu, Branch, X, IsAt, IsLawfulProgram}
use Rattle.std.proofs.lemmas.Option.{same_Some, slice_get-get_or}
use Rattle.std.proofs.lemmas.List.Sorted.{All-permutation, IsPermutation-reverse}
use Rattle.std.proofs.lemmas.List.Elements.{recursion_from_All}
use Rattle.sf_run.specs.Machine.{State, Progress, goes, returns, stuck, start, operand_of, insn_progress, step, Outcome, outcome_from, run_for, outcome_of, met_by, trace_of, with_a, with_x}
use Rattle.sf_run.specs.laws.RunLaws.{divided, loaded, step_is, lawful_ends, option_map_some}
use Rattle.sf_run.specs.Reachable.{put}
use Rattle.sf_run.specs.Routes.{MayMeet, IsWay, returns_at, goes_on, AreWays, IsWholeRoute}

-- a step meets what control allows, and leads there
abbrev Allowed : ℕ → Insn → Progress → Type 0
Allowed at i (goes met next) = MayMeet at i met (Some next.place)
Allowed at i (returns met value) = MayMeet at i met None
Allowed at i stuck = Unit {0}

step_allowed : (d : Input) (s : State) (i : Insn) → Allowed s.place i (insn_progress d s i)
step_allowed d s (LoadScratch k) =
    loaded (Allowed s.place (LoadScratch k)) s k (with_a s) tt (λ n. (refl, refl))
step_allowed d s (LoadXScratch k) =
    loaded (Allowed s.place (LoadXScratch k)) s k (with_x s) tt (λ n. (refl, refl))
step_allowed d s (Alu Div X) = divided (λ b. Allowed s.place (Alu Div X)) s (inl (refl, refl)) (inr (refl, refl))
step_allowed d s (Branch test other t f) = (passes test s.a (operand_of s other), refl, refl)
step_allowed d s _ = (refl, refl)

-- a step that goes on meets truth values with which control may lead to its next place
pub may_go : (d : Input) (s : State) (i : Insn) (met : List Bool) (t : State) → insn_progress d s i ≡ goes met t
    → MayMeet s.place i met (Some t.place)
may_go d s i met t e = subst (λ (q : Progress). Allowed s.place i q) e (step_allowed d s i)

-- what a run that comes to an end meets is a way
pub run_is_way : (n : ℕ) (code : List Insn) (d : Input) (s : State) (o : List Bool × ℕ) → run_for n code d s ≡ Some o
    → IsWay code s.place o.0
unfolding run_for
run_is_way zero code d s o e = absurd cc
run_is_way (suc n) code d s o e = at_place (slice_get code s.place) refl (λ t p q. run_is_way n code d t p q) e
  where
    by : (i : Insn) → IsAt code s.place i → ((t : State) (p : List Bool × ℕ) → run_for n code d t ≡ Some p
        → IsWay code t.place p.0) → (p : Progress) → Allowed s.place i p → outcome_from (run_for n code d) p ≡ Some o
        → IsWay code s.place o.0
    by i at rest (goes met next) allowed e =
        let tail = option_map_some (put met) (run_for n code d next) o e in
        goes_on i met next.place tail.0.0 at allowed (rest next tail.0 tail.1)
        (ap (λ (p : List Bool × ℕ). p.0) (sym tail.2))
    by i at rest (returns met v) allowed e =
        let same : met ≡ o.0 = ap (λ (p : List Bool × ℕ). p.0) (same_Some (met, v) o e) in
        subst (λ (l : List Bool). IsWay code s.place l) same (returns_at i at allowed)
    by i at rest stuck allowed e = absurd cc

    at_place : (w : Option Insn) → slice_get code s.place ≡ w
        → ((t : State) (p : List Bool × ℕ) → run_for n code d t ≡ Some p → IsWay code t.place p.0)
        → outcome_from (run_for n code d) (step code d s) ≡ Some o → IsWay code s.place o.0
    at_place None at rest e = let clash : None ≡ Some o = rw at at e in absurd cc
    at_place (Some i) at rest e = by i at rest (insn_progress d s i) (step_allowed d s i)
        (rw (step_is code d s i at) at e)

-- what a program meets is a way through it
pub trace_is_way : (code : List Insn) (d : Input) → IsLawfulProgram code → IsWay code 0 (met_by code d)
unfolding outcome_of
trace_is_way code d lawful = by (outcome_of code d) refl (lawful_ends code d lawful)
  where
    by : (r : Outcome) → outcome_of code d ≡ r → IsSome r → IsWay code 0 (met_by code d)
    by None e some = absurd cc
    by (Some o) e some = rw e (run_is_way (length code) code d start o e)

-- what programs meet, one after the other, are ways through them
pub traces_are_ways : (codes : List (List Insn)) (d : Input) → AllByRecursion IsLawfulProgram codes
    → AreWays codes (flat_map (λ p. met_by p d) codes)
traces_are_ways [] d lawful = refl
traces_are_ways (code ∷ codes) d lawful = (
  met_by code d,
  flat_map (λ p. met_by p d) codes,
  trace_is_way code d lawful.0,
  traces_are_ways codes d lawful.1,
  refl,
)

pub newest_first : (programs : List (List Insn)) → IsLawfulStack programs
    → AllByRecursion IsLawfulProgram (reverse programs)
newest_first programs lawful =
    recursion_from_All IsLawfulProgram (reverse programs)
    (All-permutation IsLawfulProgram programs (reverse programs) (IsPermutation-reverse programs)
    (λ k d lt. lawful.each k (get_or programs k d) (slice_get-get_or programs k d lt)))

-- the trace of a stack is a whole route
pub trace_is_whole_route : (programs : List (List Insn)) (d : Input) → IsLawfulStack programs
    → IsWholeRoute programs (trace_of programs d)
trace_is_whole_route programs d lawful = traces_are_ways (reverse programs) d (newest_first programs lawful)
