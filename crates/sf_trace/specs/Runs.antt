-- The runs of a stack's filters on an input.
use Rattle.std.specs.Prelude.{ℕ, zero, suc, ◌+◌, Bool, false, ◌==◌, ◌&&◌, ◌||◌, not, List, [], ◌∷◌, length, Option, Some, None, slice_get, option_and_then}
use Rattle.sf_trace.specs.Common.{Input, Insn, Answer, action_bits, action_number, CourseData, walk_of}

-- the number of a filter, whether its answer stands, and its run
pub record RunData : Type 0 where
  pub number : ℕ
  pub stands : Bool
  pub course : CourseData

-- the run of the filter at this place, counted from 0 in order of installation; that of a lawful one always comes to a
-- return
abbrev pub walk_at : List (List Insn) → Input → ℕ → Option CourseData
walk_at programs d place = option_and_then (λ code. walk_of code d) (slice_get programs place)

-- the run of a filter, whose answer stands if it has this action and that of no newer filter `stood`; and then the runs
-- of the older ones
abbrev pub next_run : (number action : ℕ) → (stood : Bool) → (older : Bool → List RunData) → Option CourseData
    → List RunData
next_run number action stood older (Some w) =
    let stands = not stood && (action_bits w.value == action) in
    record { number = number; stands = stands; course = w } ∷ older (stood || stands)
next_run number action stood older None = older stood

-- The runs of the first n filters, newest first. The answer that stands is that of the newest of all filters that
-- returns this action; `stood` says whether it is that of a filter newer than these.
abbrev pub first_runs : ℕ → (action : ℕ) → List (List Insn) → Input → (stood : Bool) → List RunData
first_runs zero action programs d stood = []
first_runs (suc n) action programs d stood =
    next_run (n + 1) action stood (first_runs n action programs d) (walk_at programs d n)

-- the runs of all filters of a stack that answers so
abbrev pub runs_of : List (List Insn) → Input → Answer → List RunData
runs_of programs d answer = first_runs (length programs) (action_number answer.action) programs d false
