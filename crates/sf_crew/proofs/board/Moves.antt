-- Each step of a seat keeps the rule of its board.
use Rattle.sf_crew.proofs.Common.{common_steps, ◌≡◌, ◌≢◌, ℕ, ◌+◌, ◌-◌, ◌*◌, ◌/◌, ◌%◌, ◌^◌, ◌<◌, ◌≤◌, min, max, bit_or, List, [], ◌∷◌, ◌++◌, All, sum_by, map, length, set, slice_index, Some, IfSome, sym, refl, ap, ◌∙◌, subst, inr, ⊎_elim, length-set, length-append, lt_of_not-le, arith, bit_at, get_or-set_same, get_or-set_other, set-get_or, length-map, All-cons, some, dite, dec_le, get_elem?, Me, Allows, keeps, BoardKey, View, EnteredSheet, Note, HasHit, note, entered_sheet, has, has_doubt, regions_of, questions_of, count_of_regions, jobs, owed_jobs, Noted, Covered, RightPlace, top, doubt_at, Kept, BoardKept, least_in, doubts_in, with_notes, view_with_note, view_with_mark, view_with_sheet, Looks}
use Rattle.sf_crew.proofs.Doubts.{has_same, has_other, has_most, has_doubt_most, question_is, bit_set, bit_kept, bit_most}
use Rattle.sf_crew.proofs.Totals.{total_set, total_le, top_set, top_kept}
use Rattle.sf_crew.proofs.board.OneView.{one_view, marks_and_notes, same_marks, later, in_words}

pub noted_more : (k : BoardKey) (ns ms : List Note) (es : List EnteredSheet) → ((q r : ℕ) → Noted ns q r → Noted ms q r)
    → All (Covered k ns) es → All (Covered k ms) es
noted_more k ns ms es more h = search arith

-- the rule stays where the notes of one view and the least places change
renoted : (k : BoardKey) (n e : ℕ) (d least less : ℕ → ℕ) (views : List View) (port : ℕ) (v : View) (ns : List Note)
    → get_elem? views port ≡ some v
    → ((q : ℕ) → less q ≤ least q) → ((q : ℕ) → q < length (questions_of k) → RightPlace k q (less q))
    → ((q r : ℕ) → Noted ns q r → less q ≤ r) → ((q r : ℕ) → Noted v.notes q r → Noted ns q r)
    → Kept k n e d least views → Kept k n e d less (set views port (with_notes v ns))
renoted k n e d least less views port v ns at down right noted more h = let mine = h.each port v at in
    one_view k n n e e d d least less views port v (with_notes v ns) at (marks_and_notes k n e v v.marked ns)
    (same_marks d views port v (with_notes v ns) at (λ q. refl) h.marked) right
    (λ u s. later k n n least less u (omega arith) down s) (grind (arith, common_steps, noted_more)) h

pub looks : (k : BoardKey) (slots id q : ℕ) (me : Me ℕ View) → me.0.about ≡ Some k → q < length (questions_of k)
    → Allows (BoardKept k) slots id me (q + 6) (λ n. n) (λ n w. Looks me.0 (q + 6 - 6) n w.0 × (w.1 ≡ me.1))
looks k slots id q me is there s h homes at fits =
    let v : View = me.0 in let n : ℕ = slice_index s.words (q + 6) in let w : View = view_with_note v q n in
    let same : set s.words (q + 6) n ≡ s.words = set-get_or s.words (q + 6) 0 in
    let mine = (h.1).each id v at in
    let kept = renoted k _ _ _ (least_in s.words) (least_in s.words) s.views id v (note q n ∷ v.notes) at
    (λ p. omega arith) (h.1).right (λ p r x. ⊎_elim (λ (y : (q ≡ p) × (n ≡ r)). let a : slice_index s.words (p + 6)
    ≡ n = ap (λ j. slice_index s.words (j + 6)) (sym y.0) in let b = y.1 in omega arith) (λ y. mine.noted p r y) x)
    (λ p r x. inr x) h.1 in (
      w,
      keeps,
      tt,
      subst (λ ws. BoardKept k (record { words = ws; homes = s.homes; views = set s.views id w }))
          (sym same) (h.0, kept),
      (
        let at_word : q ≡ q + 6 - 6 = omega arith in subst (λ p. Looks v p n w) at_word (
          refl,
          (λ r x. mine.noted q r x),
          subst (λ o. IfSome o (λ j. RightPlace j q n)) (sym is) ((h.1).right q there),
        ),
        refl,
      ),
    )

pub hits : (k : BoardKey) (slots id q j : ℕ) (me : Me ℕ View) → q < length (questions_of k) → j < count_of_regions k
    → HasHit (regions_of k) (questions_of k) j q → Allows (BoardKept k) slots id me (q + 6) (λ n. min n j)
    (λ n w. (w.0 ≡ view_with_note me.0 (q + 6 - 6) j) × (w.1 ≡ me.1))
hits k slots id q j me there below breaks s h homes at fits =
    let v : View = me.0 in let n : ℕ = slice_index s.words (q + 6) in let m : ℕ = min n j in
    let w : View = view_with_note v q j in
    let words : List ℕ = set s.words (q + 6) m in
    let mine = (h.1).each id v at in
    let long : length s.words ≡ length (questions_of k) + 6 = h.0 in
    let here : least_in words q ≡ m = get_or-set_same s.words (q + 6) m 0 (omega arith) in
    let others : (p : ℕ) → p ≢ q → least_in words p ≡ least_in s.words p =
    λ p ne. get_or-set_other s.words (q + 6) (p + 6) m 0 (λ e. ne (omega arith)) in
    let by : (F : ℕ → ℕ → Type 0) → F q m → ((p : ℕ) → p ≢ q → F p (least_in s.words p)) → (p : ℕ)
    → F p (least_in words p) = search arith in
    let least_n : least_in s.words q ≡ n = refl in
    let kept = renoted k _ _ _ (least_in s.words) (least_in words) s.views id v (note q j ∷ v.notes) at
    (by (λ p x. x ≤ least_in s.words p) (omega arith) (λ p ne. omega arith))
    (by (λ p x. p < length (questions_of k) → RightPlace k p x) (λ _.
    dite (dec_le n j) (λ le. subst (RightPlace k q) (omega arith) ((h.1).right q there)) (λ gt. inr (
      (let lt = lt_of_not-le gt in omega arith),
      subst (λ x. HasHit (regions_of k) (questions_of k) x q) (let lt = lt_of_not-le gt in omega arith) breaks,
    ))) (λ p ne. (h.1).right p)) (by (λ p x. (r : ℕ) → Noted (note q j ∷ v.notes) p r → x ≤ r)
    (λ r x. ⊎_elim (λ (y : (q ≡ q) × (j ≡ r)). let e = y.1 in omega arith)
    (λ (y : Noted v.notes q r). let le = mine.noted q r y in omega arith) x)
    (λ p ne r x. ⊎_elim (λ (y : (q ≡ p) × (j ≡ r)). absurd (ne (sym y.0)))
    (λ (y : Noted v.notes p r). mine.noted p r y) x)) (λ p r x. inr x) h.1 in (
      w,
      keeps,
      tt,
      in_words k words (slice_index s.words 0) (slice_index s.words 1) (doubts_in s.words) (least_in words)
          (set s.views id w) (length-set s.words (q + 6) m ∙ long)
          (get_or-set_other s.words (q + 6) 0 m 0 (λ e. omega arith))
          (get_or-set_other s.words (q + 6) 1 m 0 (λ e. omega arith))
          (λ x few. get_or-set_other s.words (q + 6) (x + 2) m 0 (λ e. omega arith)) (λ p. refl) kept,
      ((let at_word : q ≡ q + 6 - 6 = omega arith in ap (λ p. view_with_note v p j) at_word), refl),
    )

-- where one question more is marked, and its bit is set, the bits stay right
new_mark : (d d' : ℕ → ℕ) (views : List View) (port : ℕ) (v : View) (q : ℕ) → get_elem? views port ≡ some v
    → bit_at (d' (q / 64)) (q % 64) ≡ 1 → ((p : ℕ) → p < 256 → p ≢ q
    → bit_at (d' (p / 64)) (p % 64) ≡ bit_at (d (p / 64)) (p % 64))
    → ((p : ℕ) → p < 256 → bit_at (d (p / 64)) (p % 64) ≡ top (doubt_at p) views) → (p : ℕ) → p < 256
    → bit_at (d' (p / 64)) (p % 64) ≡ top (doubt_at p) (set views port (view_with_mark v q))
new_mark d d' views port v q at here others was p few =
    search (arith, has_same, has_most, has_doubt_most, top_set, bit_most, top_kept, has_other)

mark_kept : (k : BoardKey) (n e j q : ℕ) (d d' least : ℕ → ℕ) (views : List View) (port : ℕ) (v : View)
    → v.owes ≡ Some j → bit_at (d' (q / 64)) (q % 64) ≡ 1
    → ((p : ℕ) → p < 256 → p ≢ q → bit_at (d' (p / 64)) (p % 64) ≡ bit_at (d (p / 64)) (p % 64))
    → get_elem? views port ≡ some v → Kept k n e d least views
    → Kept k n e d' least (set views port (view_with_mark v q))
mark_kept k n e j q d d' least views port v owing here others at h = let mine = h.each port v at in
    one_view k n n e e d d' least least views port v (view_with_mark v q) at
    (marks_and_notes k n e v (q ∷ v.marked) v.notes) (new_mark d d' views port v q at here others h.marked) h.right
    (λ u s. s) (grind (arith, common_steps)) h

pub marks : (k : BoardKey) (slots q j : ℕ) (id : ℕ) (me : Me ℕ View) → me.0.owes ≡ Some j → q < 256
    → Allows (BoardKept k) slots id me (q / 64 + 2) (λ n. bit_or n (1 * 2 ^ (q % 64) % 2 ^ 64))
    (λ n w. ((p : ℕ) → q / 64 + 2 ≡ p / 64 + 2 → 1 * 2 ^ (q % 64) % 2 ^ 64 ≡ 1 * 2 ^ (p % 64) % 2 ^ 64
    → w.0 ≡ view_with_mark me.0 p) × (w.1 ≡ me.1))
marks k slots q j id me owing few s h homes at fits =
    let v : View = me.0 in let i : ℕ = q / 64 + 2 in let low : i < 6 = omega arith in
    let long : length s.words ≡ length (questions_of k) + 6 = h.0 in
    let m : ℕ = bit_or (slice_index s.words i) (1 * 2 ^ (q % 64) % 2 ^ 64) in let words : List ℕ = set s.words i m in
    let here : doubts_in words (q / 64) ≡ m = get_or-set_same s.words i m 0 (omega arith) in
    let others : (p : ℕ) → p < 256 → p ≢ q → bit_at (doubts_in words (p / 64)) (p % 64)
    ≡ bit_at (doubts_in s.words (p / 64)) (p % 64) = search (arith, bit_kept, get_or-set_other) in
    let kept = mark_kept k _ _ j q (doubts_in s.words) (doubts_in words) _ s.views id v owing
    (ap (λ x. bit_at x (q % 64)) here ∙ bit_set (slice_index s.words i) q) others at h.1 in (
      view_with_mark v q,
      keeps,
      tt,
      in_words k words (slice_index s.words 0) (slice_index s.words 1) (doubts_in words) (least_in s.words)
          (set s.views id (view_with_mark v q)) (length-set s.words i m ∙ long)
          (get_or-set_other s.words i 0 m 0 (λ e. omega arith)) (get_or-set_other s.words i 1 m 0 (λ e. omega arith))
          (λ w few. refl) (λ p. get_or-set_other s.words i (p + 6) m 0 (λ e. omega arith)) kept,
      ((λ p word mask. ap (view_with_mark v) (question_is q p word mask)), refl),
    )

enter_kept : (k : BoardKey) (n e j : ℕ) (d least : ℕ → ℕ) (views : List View) (port : ℕ) (v : View) → v.owes ≡ Some j
    → 0 < v.joined_seats → Covered k v.notes (entered_sheet j v.marked) → get_elem? views port ≡ some v
    → Kept k n e d least views → Kept k n (e + 1) d least (set views port (view_with_sheet v j))
enter_kept k n e j d least views port v owing part covered at h = let w : View = view_with_sheet v j in
    let mine = h.each port v at in
    one_view k n n e (e + 1) d d least least views port v w at (grind (arith, common_steps))
    (same_marks d views port v w at (λ q.
    (let b : doubt_at q w ≡ max (has q []) (max (has q v.marked) (has_doubt q v.entered_sheets)) = refl in
    let z : has q [] ≡ 0 = refl in omega arith)) h.marked) h.right (λ u s. s) (record {
      about = mine.about;
      idle = λ none. absurd (omega arith);
      few = mine.few;
      past = mine.past;
      marks = λ _. refl;
      noted = mine.noted;
      covered = All-cons (Covered k v.notes) (entered_sheet j v.marked) v.entered_sheets covered mine.covered;
    }) h

entries_few : (k : BoardKey) (n e j : ℕ) (d least : ℕ → ℕ) (views : List View) (port : ℕ) (v : View) → v.owes ≡ Some j
    → get_elem? views port ≡ some v → Kept k n e d least views → e + 1 ≤ count_of_regions k
entries_few k n e j d least views port v owing at h = let w : View = view_with_sheet v j in
    let a = total_set (λ u. length u.entered_sheets) views port v w at in
    let b = total_set (λ u. length (jobs u)) views port v w at in
    let same : length (jobs v) ≡ length (jobs w) =
    ap (λ o. length (owed_jobs o ++ map (λ y. y.job) v.entered_sheets)) owing in
    let le : sum_by (λ u. length u.entered_sheets) (set views port w)
    ≤ sum_by (λ u. length (jobs u)) (set views port w) = search (arith, total_le, length-append, length-map) in
    let p = h.entered_is in let c = h.drawn_count in omega arith

pub enters : (k : BoardKey) (slots id j : ℕ) (me : Me ℕ View) → me.0.owes ≡ Some j → 0 < me.0.joined_seats
    → count_of_regions k < 18446744073709551616 → Covered k me.0.notes (entered_sheet j me.0.marked)
    → Allows (BoardKept k) slots id me 1 (λ n. (n + 1) % 18446744073709551616)
    (λ n w. ((i : ℕ) → me.0.owes ≡ Some i → w.0 ≡ view_with_sheet me.0 i) × (w.1 ≡ me.1))
enters k slots id j me owing part small covered s h homes at fits =
    let e : ℕ = slice_index s.words 1 in let few = entries_few k _ e j _ _ s.views id me.0 owing at h.1 in
    let d : ℕ = (e + 1) % 18446744073709551616 in let same : e + 1 ≡ d = omega arith in
    let long : length s.words ≡ length (questions_of k) + 6 = h.0 in let w : View = view_with_sheet me.0 j in
    let kept = subst (λ x. Kept k (slice_index s.words 0) x (doubts_in s.words) (least_in s.words)
    (set s.views id w)) same (enter_kept k _ e j _ _ s.views id me.0 owing part covered at h.1) in (
      w,
      keeps,
      tt,
      search (arith, in_words, kept, get_or-set_same, get_or-set_other, length-set),
      ((λ i is. ap (view_with_sheet me.0) (cc (owing, is))), refl),
    )
