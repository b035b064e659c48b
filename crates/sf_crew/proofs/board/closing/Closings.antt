-- The tally is right.
use Rattle.sf_crew.proofs.Common.{gets, common_steps, ◌≡◌, ◌≢◌, ℕ, zero, suc, ◌+◌, ◌<◌, ◌≤◌, ◌/◌, ◌%◌, min, List, [], ◌∷◌, All, sum_by, length, get_or, set, slice_index, slice_get, Option, Some, None, sym, refl, ap, ◌∙◌, ⊎_elim, length-append, arith, bit_at, nat_tests, length-map, nil_from_length, slice_get_within, some, some-injective, some-ne-none, get_elem?, replicate, State, Doubt, IsRightOn, BoardKey, View, EnteredSheet, Note, Tally, bit_of, entered_jobs, has, has_doubt, IsInDoubt, regions_of, questions_of, count_of_regions, jobs, owed_jobs, Noted, Covered, once_below, top, doubt_at, Kept, BoardKept, least_in, doubts_in, RightTally, IsBelowLeast, IsCleared, LeastIs}
use Rattle.sf_crew.proofs.Doubts.{bit_most, has_most}
use Rattle.sf_crew.proofs.Totals.{times, total_at, total_only, top_at, top_only, times_append}
use Rattle.sf_crew.proofs.Jobs.{jobs_once}

once_up : (x n p : ℕ) → n ≤ p → once_below x n ≤ once_below x p
once_up x n p h = grind (arith, nat_tests)

-- the doubts of each sheet are doubts of the list
has_doubt_at : (q : ℕ) (es : List EnteredSheet) (i : ℕ) (d : EnteredSheet) → i < length es
    → has q (get_or es i d).doubts ≤ has_doubt q es
has_doubt_at q [] i d there = absurd (omega arith)
has_doubt_at q (e ∷ es) zero d there = omega arith
has_doubt_at q (e ∷ es) (suc i) d there = let rest = has_doubt_at q es i d (omega arith) in omega arith

cleared_all : (k : BoardKey) (t : Tally) (words : List ℕ) (ns : List Note) (es : List EnteredSheet)
    → ((q r : ℕ) → Noted ns q r → slice_index words (q + 6) ≤ r)
    → LeastIs words (count_of_regions k) (length (questions_of k)) t.least
    → ((q : ℕ) → q < length (questions_of k) → has_doubt q es ≤ bit_of t.doubts q) → All (Covered k ns) es
    → All (λ e. (q : ℕ) → q < length (questions_of k) → IsBelowLeast t q e.job → IsCleared k t e q) es
cleared_all k t words ns es noted least masked h =
    grind (arith, common_steps, get_or, slice_index, ⊎_elim, bit_most, has_doubt_at)

doubts_right : (k : BoardKey) (ns : List Note) (es : List EnteredSheet) → All (Covered k ns) es
    → All (λ e. (q : ℕ) → has q e.doubts ≡ 1 → IsInDoubt k e.job q) es
doubts_right k ns es h = λ i d there. let c : Covered k ns (get_or es i d) = h i d there in c.doubts

-- no sheet has a doubt for a question past the last one
none_past : (k : BoardKey) (q : ℕ) (es : List EnteredSheet) → length (questions_of k) ≤ q
    → All (λ e. (p : ℕ) → has p e.doubts ≡ 1 → IsInDoubt k e.job p) es → has_doubt q es ≡ 0
none_past k q [] out h = refl
none_past k q (e ∷ es) out h =
    let rest = none_past k q es out (λ i d there. h (suc i) d (omega arith)) in
    let most = has_most q e.doubts in
    let none : has q e.doubts ≢ 1 =
    λ one. (let d : IsRightOn (regions_of k) (questions_of k) e.job q Doubt = h 0 e (omega arith) q one in
    let there = slice_get_within (questions_of k) q d.question d.asked in omega arith) in
    omega arith

-- four words read one after another
pub four_words : (words : List ℕ) (a b c d : ℕ) → a ≡ slice_index words 2 → b ≡ slice_index words 3
    → c ≡ slice_index words 4 → d ≡ slice_index words 5 → (w : ℕ) → w < 4
    → slice_index (a ∷ b ∷ c ∷ d ∷ []) w ≡ doubts_in words w
four_words words a b c d p q r s zero lt = p
four_words words a b c d p q r s (suc zero) lt = q
four_words words a b c d p q r s (suc (suc zero)) lt = r
four_words words a b c d p q r s (suc (suc (suc zero))) lt = s
four_words words a b c d p q r s (suc (suc (suc (suc w)))) lt = absurd (omega arith)

pub close_right : (k : BoardKey) (s : State ℕ View) (id : ℕ) (v : View) (t : Tally) → length (questions_of k) ≤ 256
    → BoardKept k s → get_elem? s.views id ≡ some v → v.marked ≡ []
    → ((w : ℕ) → w < 4 → slice_index t.doubts w ≡ doubts_in s.words w) → t.entered ≡ slice_index s.words 1
    → LeastIs s.words (count_of_regions k) (length (questions_of k)) t.least → RightTally k v t
close_right k s id v t few h at unmarked doubts entered least =
    let n : ℕ = slice_index s.words 0 in let kept : Kept k n (slice_index s.words 1) (doubts_in s.words)
    (least_in s.words) s.views = h.1 in let mine = kept.each id v at in
    let bit : (q : ℕ) → q < 256 → bit_of t.doubts q ≡ top (doubt_at q) s.views =
    λ q lt. ap (λ y. bit_at y (q % 64)) (doubts (q / 64) (omega arith)) ∙ kept.marked q lt in
    let all : ℕ → ℕ = λ x. times x (jobs v) in
    let parted : (x : ℕ) → times x (jobs v) ≡ times x (owed_jobs v.owes) + times x (entered_jobs v) =
    λ x. times_append x (owed_jobs v.owes) (entered_jobs v) in
    let long : length (jobs v) ≡ length (owed_jobs v.owes) + length (entered_jobs v) =
    length-append (owed_jobs v.owes) (entered_jobs v) in
    let count : length (entered_jobs v) ≡ length v.entered_sheets = length-map v.entered_sheets (λ e. e.job) in
    let right = doubts_right k v.notes v.entered_sheets mine.covered in
    let joined : v.joined_seats ≡ k.seats → (q : ℕ) → q < 256 → bit_of t.doubts q
    ≡ has_doubt q v.entered_sheets = search (arith, top_only) in
    record {
      each_once = λ x. (let p = parted x in let o = jobs_once k n _ _ _ s.views id v at kept x in
          let u = once_up x (min n (count_of_regions k)) (count_of_regions k) (omega arith) in omega arith);
      breaks = search arith;
      cleared = cleared_all k t s.words v.notes v.entered_sheets mine.noted least
          (λ q lt. let a = bit q (omega arith) in let b = top_at (doubt_at q) s.views id v at in
          omega arith) mine.covered;
      doubts = right;
      counted = search (arith, total_at);
      complete = λ full x.
          (let a = total_at (λ u. length (jobs u)) s.views id v at in let b = kept.drawn_count in
          let whole : sum_by (λ u. length (jobs u)) s.views ≡ length (jobs v) = omega arith in
          let only = total_only (λ u. length (jobs u)) (λ u. times x (jobs u)) s.views id v
          (λ j u there none. ap (times x) (nil_from_length (jobs u) none)) at whole in
          let p = parted x in let none : times x (owed_jobs v.owes) ≡ 0 =
          ap (times x) (nil_from_length (owed_jobs v.owes) (omega arith)) in
          let d = kept.drawn x in let e : once_below x (min n (count_of_regions k))
          ≡ once_below x (count_of_regions k) =
          ap (once_below x) (omega arith) in omega arith);
      all_doubts = joined;
      past = λ whole q out lt. joined whole q lt ∙ none_past k q v.entered_sheets out right;
      all_counted = search (arith, total_only);
    }

none_there : (n q r : ℕ) → slice_get (replicate n None) q ≡ Some (Some r) → ⊥
none_there zero q r e = absurd (cc)
none_there (suc n) zero r e = absurd (cc)
none_there (suc n) (suc q) r e = none_there n q r e

pub least_start : (words : List ℕ) (n k : ℕ) → LeastIs words n 0 (replicate k None)
least_start words n k = ((λ q r e. absurd (none_there k q r e)), λ q lt. absurd (omega arith))

set_get : (l : List (Option ℕ)) (i : ℕ) (x : Option ℕ) → i < length l → slice_get (set l i x) i ≡ Some x
set_get l i x h = grind (arith, common_steps, gets)

set_get_other : (l : List (Option ℕ)) (i j : ℕ) (x : Option ℕ) → j ≢ i → slice_get (set l i x) j ≡ slice_get l j
set_get_other l i j x ne = grind (arith, common_steps, gets)

pub least_put : (words : List ℕ) (n m x : ℕ) (l : List (Option ℕ)) → m < length l → x ≡ slice_index words (m + 6)
    → x < n → LeastIs words n m l → LeastIs words n (m + 1) (set l m (Some x))
least_put words n m x l there is below h = search (arith, set_get, set_get_other)

pub least_skip : (words : List ℕ) (n m : ℕ) (l : List (Option ℕ)) → n ≤ slice_index words (m + 6) → LeastIs words n m l
    → LeastIs words n (m + 1) l
least_skip words n m l high h = search arith

pub elem_index : (l : List ℕ) (i a : ℕ) → get_elem? l i ≡ some a → slice_index l i ≡ a
elem_index [] i a e = absurd (some-ne-none a (sym e))
elem_index (x ∷ l) zero a e = some-injective x a e
elem_index (x ∷ l) (suc i) a e = elem_index l i a e
