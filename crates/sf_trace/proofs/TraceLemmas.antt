-- The runs of filters with one more, and the parts of a line.
use Rattle.sf_trace.proofs.Common.{common_steps, arith, ◌≡◌, ℕ, suc, ◌+◌, ◌<◌, Bool, List, [], ◌∷◌, ◌++◌, codes, Some, get_or, length, slice_get, append_assoc, refl, slice_get-get_or, not, ◌&&◌, ◌||◌, ◌==◌, Input, Insn, action_bits, CourseData, walk_of, RunData, first_runs}

-- the runs of a stack's filters, with that of one filter more
pub one_more_run : (n action : ℕ) (stood stands : Bool) (programs : List (List Insn)) (d : Input) (code : List Insn)
    (w : CourseData) (old new whole : List RunData)
    → slice_get programs n ≡ Some code → walk_of code d ≡ Some w
    → stands ≡ (not stood && (action_bits w.value == action))
    → new ≡ old ++ record { number = n + 1; stands = stands; course = w } ∷ []
    → old ++ first_runs (suc n) action programs d stood ≡ whole
    → new ++ first_runs n action programs d (stood || stands) ≡ whole
one_more_run n action stood stands programs d code w old new whole at ran stands_is pushed so_far =
    let so_far' : old ++ (record { number = n + 1; stands = stands; course = w }
    ∷ first_runs n action programs d (stood || stands)) ≡ whole =
    rw (stands_is, ← so_far, at, ran) refl in
    rw (pushed, append_assoc old) so_far'

-- the program that was read from a place of the list stands at that place
pub program_at : (programs : List (List Insn)) (n k : ℕ) (code : List Insn) → code ≡ get_or programs k code → k ≡ n
    → n < length programs → slice_get programs n ≡ Some code
program_at programs n k code read same within = grind (arith, common_steps, slice_get-get_or)

-- the line of a comparison, whose parts were added one after the other
pub test_parts : (old head named worded new number place name word rest : List ℕ)
    → head ≡ old ++ (codes "filter " ++ (number ++ (codes " instruction " ++ (place ++ 32 ∷ []))))
    → named ≡ head ++ name → worded ≡ named ++ word → new ≡ worded ++ rest
    → new ≡ old ++ (codes "filter " ++ (number ++ (codes " instruction "
    ++ (place ++ 32 ∷ (name ++ (word ++ rest))))))
test_parts old head named worded new number place name word rest p q r s = rw (s, r, q, p) (simp append_assoc)

pub return_parts : (old head acted new number action info place mark marked : List ℕ)
    → head ≡ old ++ (codes "filter " ++ (number ++ 32 ∷ []))
    → acted ≡ head ++ action → mark ≡ marked
    → new ≡ acted ++ 32 ∷ (info ++ (codes " instruction " ++ (place ++ (mark ++ 10 ∷ []))))
    → new ≡ old ++ (codes "filter " ++ (number ++ 32
    ∷ (action ++ 32 ∷ (info ++ (codes " instruction " ++ (place ++ (marked ++ 10 ∷ [])))))))
return_parts old head acted new number action info place mark marked p q same r = rw (r, q, p, same) (simp append_assoc)
