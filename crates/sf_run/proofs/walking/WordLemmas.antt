-- Walks: where A is said to hold a word of the input, it has the number of this word.
use Rattle.sf_run.proofs.Common.{◌≡◌, ℕ, zero, suc, List, [], ◌∷◌, length, Option, Some, None, sym, ap, subst, ◌∙◌, All, slice_index, All-append, All-cons, All-nil, same_Some, Input, Div, Insn, LoadWord, LoadConstant, LoadScratch, LoadLength, LoadXScratch, Alu, Negate, Branch, ReturnConstant, ReturnA, Txa, X, State, Progress, goes, returns, stuck, start, step, insn_progress, with_a, with_x, divided, loaded, CourseData, HoldsItsWord, after, meeting_at, walk_for, walk_of, word_after, Meeting}
use Rattle.sf_run.proofs.WalkLemmas.{walked, on, out}

-- A holds the word that it is said to hold
abbrev IsTold : Input → Option ℕ → State → Type 0
IsTold d word s = (k : ℕ) → word ≡ Some k → s.a ≡ slice_index d.words k

-- it does after a step that goes on
abbrev IsToldNext : Input → Option ℕ → Progress → Type 0
IsToldNext d word (goes met next) = IsTold d word next
IsToldNext d word (returns met value) = Unit {0}
IsToldNext d word stuck = Unit {0}

none_told : (d : Input) (s : State) → IsTold d None s
none_told d s = λ k e. absurd cc

step_told : (d : Input) (s : State) (word : Option ℕ) (i : Insn) → IsTold d word s
    → IsToldNext d (word_after word i) (insn_progress d s i)
step_told d s word (LoadWord w) told = λ k e. ap (λ n. slice_index d.words n) (same_Some w k e)
step_told d s word (LoadConstant k) told = λ k e. absurd cc
step_told d s word (LoadScratch k) told = loaded (IsToldNext d None) s k (with_a s) tt (λ n k e. absurd cc)
step_told d s word LoadLength told = λ k e. absurd cc
step_told d s word (LoadXScratch k) told = loaded (IsToldNext d word) s k (with_x s) tt (λ n. told)
step_told d s word (Alu Div X) told = divided (λ b. IsToldNext d None) s tt (λ k e. absurd cc)
step_told d s word (Alu op other) told = λ k e. absurd cc
step_told d s word Negate told = λ k e. absurd cc
step_told d s word (ReturnConstant k) told = tt
step_told d s word ReturnA told = tt
step_told d s word Txa told = λ k e. absurd cc
step_told d s word _ told = told

one_told : (d : Input) (m : Meeting) → HoldsItsWord d m → All (HoldsItsWord d) (m ∷ [])
one_told d m h = All-cons (HoldsItsWord d) m [] h (All-nil (HoldsItsWord d))

-- what is met there has its word
met_told : (d : Input) (s : State) (word : Option ℕ) (i : Insn) → IsTold d word s
    → All (HoldsItsWord d) (meeting_at s word i)
met_told d s word (Branch test other t f) told =
    one_told d _ (λ k a said met. sym (same_Some s.a a met) ∙ told k said)
met_told d s word ReturnA told = one_told d _ (λ k a said met. sym (same_Some s.a a met) ∙ told k said)
met_told d s word (Alu Div X) told = one_told d _ (λ k a said met. let clash : None ≡ Some a = met in absurd cc)
met_told d s word _ told = All-nil (HoldsItsWord d)

-- so has all that a walk meets from there
walk_told : (n : ℕ) (code : List Insn) (d : Input) (word : Option ℕ) (s : State) (w : CourseData) → IsTold d word s
    → walk_for n code d word s ≡ Some w → All (HoldsItsWord d) w.met
unfolding walk_for
walk_told zero code d word s w told e = absurd cc
walk_told (suc n) code d word s w told e = elim (walked n code d word s w e) [
  | on i met next v at is rest same ↦
      let told' = subst (IsToldNext d (word_after word i)) is (step_told d s word i told) in
      subst (λ (c : CourseData). All (HoldsItsWord d) c.met) same
      (All-append (HoldsItsWord d) (meeting_at s word i) v.met (met_told d s word i told)
      (walk_told n code d (word_after word i) next v told' rest))
  | out i met v at is same ↦
      subst (λ (c : CourseData). All (HoldsItsWord d) c.met) same (met_told d s word i told)
]

-- so has all that the walk of a program meets
pub walk_tells_words : (code : List Insn) (d : Input) (w : CourseData) → walk_of code d ≡ Some w
    → All (HoldsItsWord d) w.met
unfolding walk_of
walk_tells_words code d w e = walk_told (length code) code d None start w (none_told d start) e
