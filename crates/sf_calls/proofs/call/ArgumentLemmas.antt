-- How many arguments there are up to the last one that isn't 0, one argument more at a time.
use Rattle.sf_calls.proofs.Common.{common_steps, length-take, take_more, arith, ◌≡◌, ℕ, ◌+◌, ◌<◌, List, [], ◌∷◌, ◌++◌, length, take, ◌==◌, if◌then◌else◌, slice_index, count_shown}

count_shown-push : (ns : List ℕ) (n : ℕ)
    → count_shown (ns ++ n ∷ []) ≡ (if n == 0 then count_shown ns else length ns + 1)
count_shown-push [] n = grind (arith, common_steps)
count_shown-push (m ∷ ms) n = grind (arith, common_steps, count_shown-push ms n)

-- how many there are up to a place, from how many there are before it
pub count_shown-take : (ns : List ℕ) (i : ℕ) → i < length ns
    → count_shown (take (i + 1) ns) ≡ (if slice_index ns i == 0 then count_shown (take i ns) else i + 1)
count_shown-take ns i inside = grind (arith, common_steps, length-take, take_more, take, count_shown-push)
