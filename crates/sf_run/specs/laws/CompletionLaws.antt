-- From each place of a lawful program there is a way to a return, so control can always go on.
use Rattle.std.proofs.Common.{ℕ, zero, suc, ◌+◌, ◌<◌, ◌≤◌, get_or, Bool, true, List, [], ◌∷◌, ◌++◌, length, Some, None, refl, ◌⊎◌, inl, inr, arith}
use Rattle.std.specs.Prelude.{Contains}
use Rattle.std.proofs.lemmas.Option.{slice_get-get_or}
use Rattle.sf_run.specs.Common.{Div, Insn, Alu, Negate, Jump, Branch, ReturnConstant, ReturnA, X, successors, IsAt, IsLawfulProgram}
use Rattle.sf_check.specs.laws.ContainsLaws.{contains_here}
use Rattle.sf_check.specs.laws.ProgramLaws.{successor_after, successors_inside, below_in}
use Rattle.sf_run.specs.Machine.{bits}
use Rattle.sf_run.specs.Routes.{MayMeet, IsWay, returns_at, goes_on}

-- the instruction at a place may return, or lead on to one of its successors
abbrev Choice : ℕ → Insn → Type 0
Choice at i = ((met : List Bool) × MayMeet at i met None)
    ⊎ ((met : List Bool) × (to : ℕ) × MayMeet at i met (Some to) × Contains (successors at i) to)

some_choice : (at : ℕ) (i : Insn) → Choice at i
some_choice at (ReturnConstant k) = inl ([], (refl, refl))
some_choice at ReturnA = inl (bits 32 0, (refl, refl))
some_choice at (Jump k) = inr ([], at + 1 + k, (refl, refl), contains_here (at + 1 + k) [] (at + 1 + k) refl)
some_choice at (Branch test other t f) = inr (
  true ∷ [],
  at + 1 + t,
  (true, refl, refl),
  contains_here (at + 1 + t) ((at + 1 + f) ∷ []) (at + 1 + t) refl,
)
some_choice at (Alu Div X) = inl (true ∷ [], inl (refl, refl))
some_choice at _ = inr ([], at + 1, (refl, refl), contains_here (at + 1) [] (at + 1) refl)

-- from each place of a lawful program there is a way to a return
pub some_way : (n : ℕ) (code : List Insn) (at : ℕ) → IsLawfulProgram code → at < length code → length code ≤ n + at
    → (met : List Bool) × IsWay code at met
some_way zero code at lawful lt room = absurd (omega arith)
some_way (suc n) code at lawful lt room = by (some_choice at (get_or code at Negate)) (λ t. some_way n code t lawful)
  where
    here : IsAt code at (get_or code at Negate)
    here = slice_get-get_or code at Negate lt

    by : Choice at (get_or code at Negate) → ((t : ℕ) → t < length code → length code ≤ n + t → (met : List Bool)
        × IsWay code t met) → (met : List Bool) × IsWay code at met
    by (inl c) rest = (c.0, returns_at (get_or code at Negate) here c.1)
    by (inr c) rest =
        let inside = below_in (length code) (successors at (get_or code at Negate)) c.1
        (successors_inside code at (get_or code at Negate) here
        (lawful.inside at (get_or code at Negate) here) lawful.ends) c.3 in
        let after = successor_after at (get_or code at Negate) c.1 c.3 in
        let on = rest c.1 inside (omega arith) in
        (c.0 ++ on.0, goes_on (get_or code at Negate) c.0 c.1 on.0 here c.2 on.1 refl)
