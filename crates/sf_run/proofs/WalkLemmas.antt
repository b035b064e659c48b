-- Walks: one step longer, and beside the machine's run.
use Rattle.sf_run.proofs.Common.{◌≡◌, ℕ, zero, suc, ◌-◌, ◌<◌, List, ◌++◌, length, Bool, Option, Some, None, slice_get, refl, sym, ap, subst, arith, ◌∙◌, append_assoc, flat_map, append-nil, flat_map-append, same_Some, Input, Div, Insn, Alu, ReturnA, X, IsAt, met_at, State, Progress, goes, returns, stuck, bits, start, step, insn_progress, run_for, outcome_of, return_of, met_by, option_map_some, run_more, step_is, CourseData, after, course, meeting_at, meeting_in, onward, truths, walk_for, walk_of, word_after, word_behind, Meeting}
use Rattle.sf_run.proofs.MeetingLemmas.{goes_meets, returns_meets}

-- what has been met, and how the whole walk ends, after a step that goes on
pub walk_goes_on : (code : List Insn) (d : Input) (word : Option ℕ) (s : State) (i : Insn) (met : List Bool)
    (next : State) (left : ℕ) (old new : List Meeting) (whole : Option CourseData) → 0 < left
    → IsAt code s.place i → insn_progress d s i ≡ goes met next → new ≡ old ++ meeting_at s word i
    → ((w : CourseData) → walk_for left code d word s ≡ Some w → whole ≡ Some (after old w))
    → (w : CourseData) → walk_for (left - 1) code d (word_after word i) next ≡ Some w → whole ≡ Some (after new w)
unfolding walk_for
walk_goes_on code d word s i met next zero old new whole some at e pushed so_far w rest = absurd (omega arith)
walk_goes_on code d word s i met next (suc left) old new whole some at e pushed so_far w rest =
    let less : suc left - 1 ≡ left = omega arith in
    let rest' = subst (λ (n : ℕ). walk_for n code d (word_after word i) next ≡ Some w) less rest in
    let joined : Some (after old (after (meeting_at s word i) w)) ≡ Some (after new w) =
    rw (pushed, append_assoc old (meeting_at s word i) w.met) refl in
    so_far (after (meeting_at s word i) w) (rw (step_is code d s i at, at, e, rest') refl) ∙ joined

-- what has been met, and how the whole walk ends, after a step that returns
pub walk_comes_to_end : (code : List Insn) (d : Input) (word : Option ℕ) (s : State) (i : Insn) (met : List Bool)
    (v : ℕ) (left : ℕ) (old new : List Meeting) (whole : Option CourseData) → 0 < left
    → IsAt code s.place i → insn_progress d s i ≡ returns met v → new ≡ old ++ meeting_at s word i
    → ((w : CourseData) → walk_for left code d word s ≡ Some w → whole ≡ Some (after old w))
    → whole ≡ Some (course new s.place v)
unfolding walk_for
walk_comes_to_end code d word s i met v zero old new whole some at e pushed so_far = absurd (omega arith)
walk_comes_to_end code d word s i met v (suc left) old new whole some at e pushed so_far =
    let joined : Some (after old (course (meeting_at s word i) s.place v)) ≡ Some (course new s.place v) =
    rw pushed refl in
    so_far (course (meeting_at s word i) s.place v) (rw (step_is code d s i at, at, e) refl) ∙ joined

-- ---- a walk is the machine's run

-- the truth values of what an instruction meets are those that the machine meets there
met_there : (s : State) (word : Option ℕ) (i : Insn) → flat_map truths (meeting_at s word i) ≡ met_at s i
met_there s word (Alu Div X) = refl
met_there s word ReturnA = append-nil (bits 32 s.a)
met_there s word _ = refl

-- so the machine meets the truth values of what is known to be met there
pub met_by_meeting : (s : State) (word : Option ℕ) (i : Insn) (here : List Meeting) → meeting_at s word i ≡ here
    → met_at s i ≡ flat_map truths here
met_by_meeting s word i here is = sym (met_there s word i) ∙ ap (λ y. flat_map truths y) is

-- how a walk goes that comes to its end: by a step and the walk of the rest, or by a step that returns
pub data Walked (n : ℕ) (code : List Insn) (d : Input) (word : Option ℕ) (s : State) (w : CourseData) : Type 0 where
  on : (i : Insn) (met : List Bool) (next : State) (v : CourseData) → IsAt code s.place i
      → insn_progress d s i ≡ goes met next → walk_for n code d (word_after word i) next ≡ Some v
      → after (meeting_at s word i) v ≡ w → Walked n code d word s w
  out : (i : Insn) (met : List Bool) (value : ℕ) → IsAt code s.place i → insn_progress d s i ≡ returns met value
      → course (meeting_at s word i) s.place value ≡ w → Walked n code d word s w

pub walked : (n : ℕ) (code : List Insn) (d : Input) (word : Option ℕ) (s : State) (w : CourseData)
    → walk_for (suc n) code d word s ≡ Some w → Walked n code d word s w
unfolding walk_for
walked n code d word s w e = at_place (slice_get code s.place) refl e
  where
    by : (i : Insn) (p : Progress) → IsAt code s.place i → insn_progress d s i ≡ p
        → onward (meeting_at s word i) s.place (walk_for n code d (word_after word i)) p ≡ Some w
        → Walked n code d word s w
    by i (goes met next) at is e =
        let rest = option_map_some (after (meeting_at s word i)) (walk_for n code d (word_after word i) next) w e in
        on i met next rest.0 at is rest.1 rest.2
    by i (returns met v) at is e = out i met v at is (same_Some (course (meeting_at s word i) s.place v) w e)
    by i stuck at is e = absurd cc

    at_place : (o : Option Insn) → slice_get code s.place ≡ o
        → onward (meeting_in s word (slice_get code s.place)) s.place
        (walk_for n code d (word_behind word (slice_get code s.place))) (step code d s) ≡ Some w
        → Walked n code d word s w
    at_place None at e = let clash : None ≡ Some w = rw at at e in absurd cc
    at_place (Some i) at e = by i (insn_progress d s i) at refl (rw at at e)

-- a walk that comes to its end tells how the run of as many steps ends
pub walk_is_run : (n : ℕ) (code : List Insn) (d : Input) (word : Option ℕ) (s : State) (w : CourseData)
    → walk_for n code d word s ≡ Some w → run_for n code d s ≡ Some (flat_map truths w.met, w.value)
unfolding walk_for run_for
walk_is_run zero code d word s w e = absurd cc
walk_is_run (suc n) code d word s w e = elim (walked n code d word s w e) [
  | on i met next v at is rest same ↦
      let here = goes_meets d s i met next is ∙ sym (met_there s word i) in
      run_more n code d s i met next (flat_map truths v.met, v.value) at is
      (walk_is_run n code d (word_after word i) next v rest)
      ∙ rw (← same, here, flat_map-append truths (meeting_at s word i) v.met) refl
  | out i met v at is same ↦
      rw (step_is code d s i at, is, ← same, returns_meets d s i met v is ∙ sym (met_there s word i)) refl
]

-- so it tells what the program returns, and what it meets
pub walk_tells_run : (code : List Insn) (d : Input) (w : CourseData) → walk_of code d ≡ Some w
    → (w.value ≡ return_of code d) × (flat_map truths w.met ≡ met_by code d)
unfolding walk_of outcome_of
walk_tells_run code d w e =
    let ran = walk_is_run (length code) code d None start w e in
    (rw ran refl, rw ran refl)
