-- The tally of all regions is full.
use Rattle.sf_crew.proofs.Common.{◌≡◌, ◌≢◌, ℕ, suc, ◌<◌, ◌≤◌, inl, inr, All, ◌==◌, if◌then◌else◌, List, [], ◌∷◌, get_or, map, length, Some, None, IfSome, sym, ap, ◌∙◌, subst, ⊎_elim, arith, nat_tests, length-map, All-cons, All-nil, dite, ℕ_discrete, BookData, QuestionData, Clear, IsRightOn, BoardKey, View, EnteredSheet, Tally, bit_of, regions_of, questions_of, count_of_regions, jobs, has, has_doubt, IsInDoubt, once_below, HasAllJobs, Knows, RightTally, IsBelowLeast, IsFullTally}
use Rattle.sf_crew.proofs.Doubts.{has_most}
use Rattle.sf_crew.proofs.Totals.{times, times_cons}

abbrev one_if : ℕ → ℕ → ℕ
one_if r j = if r == j then 1 else 0

miss : (r j : ℕ) → r ≢ j → one_if r j ≡ 0
miss r j ne = grind (arith, nat_tests)

-- a job that stands in the list of their jobs is one of an entered sheet
job_place : (r : ℕ) (es : List EnteredSheet) → times r (map (λ e. e.job) es) ≡ 1 → (i : ℕ) × (d : EnteredSheet)
    × (i < length es) × ((get_or es i d).job ≡ r)
job_place r [] one = absurd (omega arith)
job_place r (e ∷ es) one = dite (ℕ_discrete e.job r) (λ same. (0, e, omega arith, same))
    (λ ne. let none : one_if r e.job ≡ 0 = miss r e.job (λ x. ne (sym x)) in
    let all = times_cons r e.job (map (λ (y : EnteredSheet). y.job) es) in
    let rest = job_place r es (omega arith) in
    (suc rest.0, rest.1, (let there = rest.2 in omega arith), rest.3))

once_one : (x n : ℕ) → x < n → once_below x n ≡ 1
once_one x n h = grind (arith, nat_tests)

-- what stands in a list of places is below their number
jobs_below : (n : ℕ) (es : List EnteredSheet) → ((x : ℕ) → times x (map (λ e. e.job) es) ≤ once_below x n)
    → All (λ e. e.job < n) es
jobs_below n [] h = All-nil (λ (e : EnteredSheet). e.job < n)
jobs_below n (e ∷ es) h =
    let all = λ (x : ℕ). times_cons x e.job (map (λ (y : EnteredSheet). y.job) es) in
    let low : e.job < n = grind (arith, nat_tests, h e.job, all e.job) in
    All-cons (λ (y : EnteredSheet). y.job < n) e es low
    (jobs_below n es (λ x. let one = h x in let a = all x in omega arith))

-- an entered sheet with a doubt
doubt_place : (q : ℕ) (es : List EnteredSheet) → has_doubt q es ≡ 1 → (i : ℕ) × (d : EnteredSheet)
    × (i < length es) × (has q (get_or es i d).doubts ≡ 1)
doubt_place q [] one = absurd (cc)
doubt_place q (e ∷ es) one = dite (ℕ_discrete (has q e.doubts) 1) (λ is. (0, e, omega arith, is))
    (λ ne. let rest = doubt_place q es (let most = has_most q e.doubts in omega arith) in
    (suc rest.0, rest.1, (let there = rest.2 in omega arith), rest.3))

pub full_tally : (s : BookData) (qs : List QuestionData) (k : BoardKey) (v : View) (t : Tally) → RightTally k v t
    → v.about ≡ Some k → v.owes ≡ None → v.joined_seats ≡ k.seats → 0 < v.exhausted_seats → Knows v → regions_of k ≡ s
    → questions_of k ≡ qs → length qs ≤ 256 → IsFullTally s qs t
full_tally s qs k v t right is free whole past knows regions questions few =
    let long : length (questions_of k) ≡ length qs = ap (λ (l : List QuestionData). length l) questions in
    let all : 0 < v.exhausted_seats → HasAllJobs k v =
    subst (λ o. IfSome o (λ j. 0 < v.exhausted_seats → HasAllJobs j v)) is knows.1 in
    let full = all past whole in
    let same : length (jobs v) ≡ length v.entered_sheets = search (arith, length-map) in
    let count : length v.entered_sheets ≡ count_of_regions k = sym same ∙ full.0 in
    let here : IsFullTally (regions_of k) (questions_of k) t = record {
      breaks = right.breaks;
      cleared = λ q r lt below under.
          (let there = job_place r v.entered_sheets (right.complete count r ∙ once_one r (count_of_regions k) below) in
          let e : EnteredSheet = get_or v.entered_sheets there.0 there.1 in
          ⊎_elim (λ (x : IsRightOn (regions_of k) (questions_of k) e.job q Clear).
          inl (subst (λ j. IsRightOn (regions_of k) (questions_of k) j q Clear) there.3 x))
          (λ (x : (has q e.doubts ≡ 1) × (bit_of t.doubts q ≡ 1)).
          inr (x.1, subst (λ j. IsInDoubt k j q) there.3 (right.doubts there.0 there.1 there.2 q x.0)))
          (right.cleared there.0 there.1 there.2 q lt (subst (IsBelowLeast t q) (sym there.3) under)));
      doubts = λ q lt one.
          (let there = doubt_place q v.entered_sheets (sym (right.all_doubts whole q (omega arith)) ∙ one) in (
            (get_or v.entered_sheets there.0 there.1).job,
            jobs_below (count_of_regions k) v.entered_sheets right.each_once there.0 there.1 there.2,
            right.doubts there.0 there.1 there.2 q there.3,
          ));
      past = right.past whole;
      counted = right.all_counted whole ∙ count;
    } in subst (λ (y : BookData × List QuestionData). IsFullTally y.0 y.1 t) (λ i. (regions i, questions i)) here
