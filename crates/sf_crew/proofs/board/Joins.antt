-- What a seat knows of its jobs, and how seats are split and joined.
use Rattle.sf_crew.proofs.Common.{common_steps, ◌≡◌, ◌≢◌, ℕ, ◌+◌, ◌<◌, ◌≤◌, ◌⊎◌, min, max, List, [], ◌∷◌, ◌++◌, sum_by, length, set, slice_index, Some, None, IfSome, sym, refl, ap, ◌∙◌, subst, inr, length-append, lt_of_not-le, arith, nat_tests, set-get_or, length-map, map-append, All-append, sum_by_push, some, get_elem?, Me, Allows, Splits, Joins, keeps, set_else, set_again, set_here, at_lt, BoardKey, View, Note, has, has_doubt, count_of_regions, jobs, Noted, Covered, once_below, top, doubt_at, Sound, Kept, BoardKept, idle_view, kept_view, shared_view, joined_view, HasAllJobs, Knows}
use Rattle.sf_crew.proofs.Doubts.{has_doubt_append}
use Rattle.sf_crew.proofs.Totals.{times, total_set, top_set, top_at, top_snoc, top_change, times_append, set_each, snoc_each}
use Rattle.sf_crew.proofs.board.Moves.{noted_more}
use Rattle.sf_crew.proofs.Jobs.{jobs_once, all_jobs}

once_at_most : (x n : ℕ) → once_below x n ≤ 1
once_at_most x n = grind (arith, nat_tests)

pub glances : (k : BoardKey) (slots id : ℕ) (me : Me ℕ View) → me.0.about ≡ Some k
    → Allows (BoardKept k) slots id me 0 (λ n. n) (λ n w. (w ≡ me) × Knows me.0)
glances k slots id me is s h homes at fits =
    let v : View = me.0 in let n : ℕ = slice_index s.words 0 in
    let same : set s.words 0 n ≡ s.words = set-get_or s.words 0 0 in
    let stay : set s.views id v ≡ s.views = set_again s.views id v at in
    let all : IfSome v.about (λ j. 0 < v.exhausted_seats → HasAllJobs j v) =
    subst (λ o. IfSome o (λ j. 0 < v.exhausted_seats → HasAllJobs j v)) (sym is)
    (λ past. all_jobs k n _ _ _ s.views id v at h.1 (((h.1).each id v at).past past)) in (
      v,
      keeps,
      tt,
      subst (λ (y : List ℕ × List View). BoardKept k (record { words = y.0; homes = s.homes; views = y.1 }))
          (λ i. (sym same i, sym stay i)) h,
      (
        refl,
        (
          (λ x. omega (arith, jobs_once k n _ _ _ s.views id v at h.1 x, once_at_most x (min n (count_of_regions k)))),
          all,
        ),
      ),
    )

shared : (k : BoardKey) (least : ℕ → ℕ) (n : ℕ) (v : View) → v.about ≡ Some k → Sound k n least (shared_view v)
shared k least n v is = grind (arith, common_steps)

split_kept : (k : BoardKey) (n e : ℕ) (d least : ℕ → ℕ) (views : List View) (port : ℕ) (v : View) → 1 < v.joined_seats
    → v.exhausted_seats ≡ 0 → v.about ≡ Some k → get_elem? views port ≡ some v → Kept k n e d least views
    → Kept k n e d least (set views port (kept_view v) ++ shared_view v ∷ [])
split_kept k n e d least views port v joined_seats fresh is at h = let w : View = kept_view v in
    let u : View = shared_view v in
    let mine = h.each port v at in let vs : List View = set views port w in record {
      joined_seats = search (arith, total_set, sum_by_push);
      drawn = search (arith, total_set, sum_by_push);
      drawn_count = search (arith, total_set, sum_by_push);
      past_end = search (arith, total_set, sum_by_push);
      entered_is = search (arith, total_set, sum_by_push);
      marked = search (arith, top_set, top_at, top_snoc);
      right = h.right;
      each = snoc_each (λ _. Sound k n least) vs u (set_each (λ _. Sound k n least) views port w
          (grind (arith, common_steps)) (λ j y _ there. h.each j y there)) (shared k least n v is);
    }

pub splits : (k : BoardKey) (id : ℕ) (v : View) → 1 < v.joined_seats → v.exhausted_seats ≡ 0 → v.about ≡ Some k
    → Splits {S = ℕ} (BoardKept k) id v (kept_view v) (shared_view v)
splits k id v joined_seats fresh is s h at = (h.0, split_kept k _ _ _ _ s.views id v joined_seats fresh is at h.1)

noted_left : (ns ms : List Note) (q r : ℕ) → Noted ns q r → Noted (ns ++ ms) q r
noted_left [] ms q r x = absurd x
noted_left (n ∷ ns) ms q r x = grind (arith, noted_left ns ms q r)

noted_right : (ns ms : List Note) (q r : ℕ) → Noted ms q r → Noted (ns ++ ms) q r
noted_right [] ms q r x = x
noted_right (n ∷ ns) ms q r x = inr (noted_right ns ms q r x)

pub noted_either : (ns ms : List Note) (q r : ℕ) → Noted (ns ++ ms) q r → Noted ns q r ⊎ Noted ms q r
noted_either [] ms q r x = inr x
noted_either (n ∷ ns) ms q r x = grind (arith, noted_either ns ms q r)

joint_jobs : (x : ℕ) (v w : View) → v.owes ≡ None → w.owes ≡ None
    → times x (jobs (joined_view v w)) ≡ times x (jobs v) + times x (jobs w)
joint_jobs x v w a b = grind (arith, common_steps, map-append, times_append)

joint_count : (v w : View) → v.owes ≡ None → w.owes ≡ None → length (jobs (joined_view v w)) ≡ length (jobs v)
    + length (jobs w)
joint_count v w a b = grind (arith, common_steps, length-map, length-append)

-- how a sum changes where two views change: the first becomes b, and the second z
total_both : (f : View → ℕ) (views : List View) (i j : ℕ) (v w b z : View) → j ≢ i → get_elem? views i ≡ some v
    → get_elem? (set views i b) j ≡ some w → sum_by f (set (set views i b) j z) + f v + f w ≡ sum_by f views + f b + f z
total_both f views i j v w b z apart at at' = grind (arith, common_steps, total_set)

-- the greatest value stays where b has the greater one of both views, and z has 0
top_both : (f : View → ℕ) (views : List View) (i j : ℕ) (v w b z : View) → j ≢ i → get_elem? views i ≡ some v
    → get_elem? (set views i b) j ≡ some w → f b ≡ max (f v) (f w) → f z ≡ 0
    → top f (set (set views i b) j z) ≡ top f views
top_both f views i j v w b z apart at at' joined none =
    let was : get_elem? views j ≡ some w = sym (set_else views i j b apart) ∙ at' in
    let s = top_set f views i v b at (omega arith) in
    let t = top_change f (set views i b) j w z at' in
    let there : get_elem? (set (set views i b) j z) i ≡ some b =
    set_else (set views i b) j i z (λ e. apart (sym e)) ∙ set_here views i b (at_lt views i v at) in
    omega (arith, top_at f (set (set views i b) j z) i b there, top_at f views i v at, top_at f views j w was)

join_kept : (k : BoardKey) (n e : ℕ) (d least : ℕ → ℕ) (views : List View) (i j : ℕ) (v w : View) → v.owes ≡ None
    → w.owes ≡ None → v.about ≡ Some k → 0 < v.joined_seats → j ≢ i → get_elem? views i ≡ some v
    → get_elem? (set views i (joined_view v w)) j ≡ some w
    → Kept k n e d least views → Kept k n e d least (set (set views i (joined_view v w)) j idle_view)
join_kept k n e d least views i j v w free free' is part apart at at' h =
    let b : View = joined_view v w in let z : View = idle_view in
    let was : get_elem? views j ≡ some w = sym (set_else views i j b apart) ∙ at' in
    let mine = h.each i v at in let theirs = h.each j w was in record {
      joined_seats = search (arith, total_both);
      drawn = λ x. (let s = total_both (λ y. times x (jobs y)) views i j v w b z apart at at' in
          let t = joint_jobs x v w free free' in let p = h.drawn x in omega arith);
      drawn_count = search (arith, total_both, joint_count);
      past_end = search (arith, total_both);
      entered_is = search (arith, total_both, length-append);
      marked = λ q few.
          (let none : doubt_at q z ≡ 0 = refl in
          let a : has q v.marked ≡ 0 = ap (has q) (mine.marks free) in
          let c : has q w.marked ≡ 0 = ap (has q) (theirs.marks free') in
          let o : doubt_at q b ≡ max (has q []) (has_doubt q (v.entered_sheets ++ w.entered_sheets)) = refl in
          let y : has q [] ≡ 0 = refl in
          let m = has_doubt_append q v.entered_sheets w.entered_sheets in
          let t = top_both (doubt_at q) views i j v w b z apart at at' (omega arith) none in
          let p = h.marked q few in omega arith);
      right = h.right;
      each = set_each (λ _. Sound k n least) (set views i b) j z (grind (arith, common_steps))
          (λ p u _ there. set_each (λ _. Sound k n least) views i b (record {
            about = λ _. is;
            idle = λ none. absurd (omega arith);
            few = (let x = mine.few in let y = theirs.few in omega arith);
            past = search (arith, lt_of_not-le);
            marks = λ _. refl;
            noted = search (arith, noted_either);
            covered = All-append (Covered k (v.notes ++ w.notes)) v.entered_sheets w.entered_sheets
                (noted_more k v.notes (v.notes ++ w.notes) v.entered_sheets (noted_left v.notes w.notes) mine.covered)
                (noted_more k w.notes (v.notes ++ w.notes) w.entered_sheets
                (noted_right v.notes w.notes) theirs.covered);
          }) (λ m y _ lies. h.each m y lies) p u there);
    }

pub joins : (k : BoardKey) (id other : ℕ) (v w : View) → v.owes ≡ None → w.owes ≡ None → v.about ≡ Some k
    → 0 < v.joined_seats → Joins {S = ℕ} (BoardKept k) id v other w (joined_view v w) idle_view
joins k id other v w free free' is part s h at apart at' = search (arith, join_kept)
