-- What drawing a job keeps of the rule of a board.
use Rattle.sf_crew.proofs.Common.{common_steps, ◌≡◌, ℕ, suc, ◌+◌, ◌%◌, ◌<◌, ◌≤◌, ◌==◌, if◌then◌else◌, min, List, ◌++◌, sum_by, map, length, set, slice_index, Some, None, IfSome, refl, ap, subst, inl, length-set, lt_of_not-le, arith, nat_tests, get_or-set_same, get_or-set_other, some, dec_le, get_elem?, Me, Allows, keeps, BoardKey, View, questions_of, count_of_regions, jobs, owed_jobs, once_below, Kept, BoardKept, least_in, doubts_in, view_with_job, view_without_job, HasAllJobs, Draws}
use Rattle.sf_crew.proofs.Jobs.{all_jobs}
use Rattle.sf_crew.proofs.Totals.{times, times_cons, total_set, total_at, total_le, set_each}
use Rattle.sf_crew.proofs.board.OneView.{one_view, same_marks, later, in_words}

below_next : (x n : ℕ) → once_below x (n + 1) ≡ once_below x n + (if x == n then 1 else 0)
below_next x n = grind (arith, nat_tests)

draw_kept : (k : BoardKey) (n e : ℕ) (d least : ℕ → ℕ) (views : List View) (port : ℕ) (v : View)
    → n < count_of_regions k → v.owes ≡ None → 0 < v.joined_seats → get_elem? views port ≡ some v
    → Kept k n e d least views → Kept k (n + 1) e d least (set views port (view_with_job v n))
draw_kept k n e d least views port v below free part at h = let w : View = view_with_job v n in
    let mine = h.each port v at in
    one_view k n (n + 1) e e d d least least views port v w at (record {
      joined_seats = refl;
      drawn = λ x.
          let was : times x (jobs v) ≡ times x (map (λ e. e.job) v.entered_sheets) =
          ap (λ o. times x (owed_jobs o ++ map (λ e. e.job) v.entered_sheets)) free in
          let is : times x (jobs w) ≡ (if x == n then 1 else 0) + times x (map (λ e. e.job) v.entered_sheets) =
          times_cons x n (map (λ e. e.job) v.entered_sheets) in
          let before : once_below x (min n (count_of_regions k)) ≡ once_below x n = ap (once_below x) (omega arith) in
          let after : once_below x (min (n + 1) (count_of_regions k)) ≡ once_below x (n + 1) =
          ap (once_below x) (omega arith) in
          let b = below_next x n in
          omega arith;
      drawn_count =
          let was : length (jobs v) ≡ length (map (λ e. e.job) v.entered_sheets) =
          ap (λ o. length (owed_jobs o ++ map (λ e. e.job) v.entered_sheets)) free in
          let is : length (jobs w) ≡ suc (length (map (λ e. e.job) v.entered_sheets)) = refl in
          omega arith;
      past_end = inl (omega arith);
      entered_is = refl;
    }) (same_marks d views port v w at (λ q. refl) h.marked) h.right
    (λ u s. later k n (n + 1) least least u (omega arith) (λ q. omega arith) s) (grind (arith, common_steps)) h

pass_kept : (k : BoardKey) (n e : ℕ) (d least : ℕ → ℕ) (views : List View) (port : ℕ) (v : View)
    → count_of_regions k ≤ n → v.exhausted_seats ≡ 0 → 0 < v.joined_seats → get_elem? views port ≡ some v
    → Kept k n e d least views → Kept k (n + 1) e d least (set views port (view_without_job v))
pass_kept k n e d least views port v past fresh part at h = let w : View = view_without_job v in
    let mine = h.each port v at in
    one_view k n (n + 1) e e d d least least views port v w at (grind (arith, common_steps))
    (same_marks d views port v w at (λ q. refl) h.marked) h.right
    (λ u s. later k n (n + 1) least least u (omega arith) (λ q. omega arith) s) (grind (arith, common_steps)) h

-- the word of the next job stays far below 2 ^ 64
nones_below : (k : BoardKey) (n e : ℕ) (d least : ℕ → ℕ) (views : List View) (port : ℕ) (v : View)
    → v.exhausted_seats ≡ 0 → 0 < v.joined_seats → get_elem? views port ≡ some v → Kept k n e d least views
    → n + 1 ≤ count_of_regions k + k.seats
nones_below k n e d least views port v fresh part at h =
    let w : View = view_without_job v in let mine = h.each port v at in
    let a = total_set (λ u. u.exhausted_seats) views port v w at in
    let b = total_set (λ u. u.joined_seats) views port v w at in
    let le : sum_by (λ u. u.exhausted_seats) (set views port w) ≤ sum_by (λ u. u.joined_seats) (set views port w) =
    total_le (λ u. u.exhausted_seats) (λ u. u.joined_seats) (set views port w)
    (set_each (λ _ u. u.exhausted_seats ≤ u.joined_seats) views port w (omega arith)
    (λ j u _ there. (h.each j u there).few)) in
    let p = h.joined_seats in let q = h.past_end in omega arith

draw_step : (k : BoardKey) (words : List ℕ) (views : List View) (id : ℕ) (v : View) → v.owes ≡ None
    → v.exhausted_seats ≡ 0 → 0 < v.joined_seats → count_of_regions k + k.seats < 18446744073709551616
    → length words ≡ length (questions_of k) + 6 → Kept k (slice_index words 0) (slice_index words 1) (doubts_in words)
    (least_in words) views → get_elem? views id ≡ some v → Dec (count_of_regions k ≤ slice_index words 0)
    → (w : View) × Kept k ((slice_index words 0 + 1) % 18446744073709551616) (slice_index words 1) (doubts_in words)
    (least_in words) (set views id w)
    × (slice_index words 0 < count_of_regions k → (times (slice_index words 0) (jobs v) ≡ 0)
    × (length (jobs v) < count_of_regions k) × (w ≡ view_with_job v (slice_index words 0)))
    × (count_of_regions k ≤ slice_index words 0 → (w ≡ view_without_job v) × HasAllJobs k w)
draw_step k words views id v free fresh part small long h at (yes past) =
    let n = slice_index words 0 in let most = nones_below k n _ _ _ views id v fresh part at h in
    let e : n + 1 ≡ (n + 1) % 18446744073709551616 = omega arith in (
      view_without_job v,
      subst (λ m. Kept k m (slice_index words 1) (doubts_in words) (least_in words)
          (set views id (view_without_job v))) e (pass_kept k n _ _ _ views id v past fresh part at h),
      (λ below. absurd (omega arith)),
      (λ _. (refl, all_jobs k n _ _ _ views id v at h past)),
    )
draw_step k words views id v free fresh part small long h at (no not_past) =
    let n = slice_index words 0 in let below : n < count_of_regions k = lt_of_not-le not_past in
    let e : n + 1 ≡ (n + 1) % 18446744073709551616 = omega arith in
    let mine : times n (jobs v) ≤ sum_by (λ u. times n (jobs u)) views =
    total_at (λ u. times n (jobs u)) views id v at in
    let all : sum_by (λ u. times n (jobs u)) views ≡ once_below n (min n (count_of_regions k)) = h.drawn n in
    let none : once_below n (min n (count_of_regions k)) ≡ 0 = grind (arith, nat_tests) in
    let count = total_at (λ u. length (jobs u)) views id v at in let counted = h.drawn_count in (
      view_with_job v n,
      subst (λ m. Kept k m (slice_index words 1) (doubts_in words) (least_in words)
          (set views id (view_with_job v n))) e (draw_kept k n _ _ _ views id v below free part at h),
      (λ _. (omega arith, omega arith, refl)),
      (λ past. absurd (omega arith)),
    )

pub draws : (k : BoardKey) (slots id : ℕ) (me : Me ℕ View) → me.0.about ≡ Some k → me.0.owes ≡ None
    → me.0.exhausted_seats ≡ 0 → 0 < me.0.joined_seats → count_of_regions k + k.seats < 18446744073709551616
    → Allows (BoardKept k) slots id me 0 (λ n. (n + 1) % 18446744073709551616) (λ n w. Draws me.0 n w.0 × (w.1 ≡ me.1))
draws k slots id me is free fresh part small s h homes at fits =
    let v : View = me.0 in let n : ℕ = slice_index s.words 0 in
    let t = draw_step k s.words s.views id v free fresh part small h.0 h.1 at (dec_le (count_of_regions k) n) in
    let told : IfSome v.about (λ j. (n < count_of_regions j → (times n (jobs v) ≡ 0)
    × (length (jobs v) < count_of_regions j)
    × (t.0 ≡ view_with_job v n)) × (count_of_regions j ≤ n → (t.0 ≡ view_without_job v) × HasAllJobs j t.0)) =
    search arith in
    let m : ℕ = (n + 1) % 18446744073709551616 in let long : length s.words ≡ length (questions_of k) + 6 = h.0 in (
      t.0,
      keeps,
      tt,
      search (arith, in_words, t.1, get_or-set_same, get_or-set_other, length-set),
      (told, refl),
    )
