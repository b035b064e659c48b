-- When the rule stays where one view and the words of the board change.
use Rattle.sf_crew.proofs.Common.{common_steps, ◌≡◌, ℕ, ◌+◌, ◌/◌, ◌%◌, ◌<◌, ◌≤◌, ◌⊎◌, min, List, length, set, slice_index, sym, ◌∙◌, arith, bit_at, some, get_elem?, BoardKey, View, Note, questions_of, count_of_regions, jobs, RightPlace, once_below, top, doubt_at, Sound, Kept, least_in, doubts_in, with_notes, with_marks}
use Rattle.sf_crew.proofs.Totals.{times, total_set, top_kept, set_each}

-- What view v counts for, beside the view w that it becomes, where the word of the next job goes from n to m, and that
-- of the sheets entered from e to f.
pub record IsCounted (k : BoardKey) (n m e f : ℕ) (v w : View) : Type 0 where
  pub joined_seats : w.joined_seats ≡ v.joined_seats
  pub drawn : (x : ℕ) → times x (jobs w) + once_below x (min n (count_of_regions k))
      ≡ times x (jobs v) + once_below x (min m (count_of_regions k))
  pub drawn_count : length (jobs w) + min n (count_of_regions k) ≡ length (jobs v) + min m (count_of_regions k)
  pub past_end : (m ≤ count_of_regions k) ⊎ (m + v.exhausted_seats ≤ n + w.exhausted_seats)
  pub entered_is : length w.entered_sheets + e ≡ length v.entered_sheets + f

-- other marks and other notes count for nothing
pub marks_and_notes : (k : BoardKey) (n e : ℕ) (v : View) (qs : List ℕ) (ns : List Note)
    → IsCounted k n n e e v (with_marks (with_notes v ns) qs)
marks_and_notes k n e v qs ns = grind (arith, common_steps)

-- the bits stay right where the new view marks what the old one marked
pub same_marks : (d : ℕ → ℕ) (views : List View) (port : ℕ) (v w : View) → get_elem? views port ≡ some v
    → ((q : ℕ) → doubt_at q w ≡ doubt_at q v)
    → ((q : ℕ) → q < 256 → bit_at (d (q / 64)) (q % 64) ≡ top (doubt_at q) views) → (q : ℕ) → q < 256
    → bit_at (d (q / 64)) (q % 64) ≡ top (doubt_at q) (set views port w)
same_marks d views port v w at same was q few = was q few ∙ sym (top_kept (doubt_at q) views port v w at (same q))

pub one_view : (k : BoardKey) (n m e f : ℕ) (d d' least less : ℕ → ℕ) (views : List View) (port : ℕ) (v w : View)
    → get_elem? views port ≡ some v → IsCounted k n m e f v w
    → ((q : ℕ) → q < 256 → bit_at (d' (q / 64)) (q % 64) ≡ top (doubt_at q) (set views port w))
    → ((q : ℕ) → q < length (questions_of k) → RightPlace k q (less q))
    → ((u : View) → Sound k n least u → Sound k m less u) → Sound k m less w
    → Kept k n e d least views → Kept k m f d' less (set views port w)
one_view k n m e f d d' least less views port v w at counted marked right others mine h = record {
  joined_seats = search (arith, total_set);
  drawn = search (arith, total_set);
  drawn_count = search (arith, total_set);
  past_end = search (arith, total_set);
  entered_is = search (arith, total_set);
  marked = marked;
  right = right;
  each = set_each (λ _. Sound k m less) views port w mine (λ j u _ there. others u (h.each j u there));
}

-- a view stays sound where the next job is a later one, and the least places are no greater
pub later : (k : BoardKey) (n m : ℕ) (least less : ℕ → ℕ) (v : View) → n ≤ m → ((q : ℕ) → less q ≤ least q)
    → Sound k n least v → Sound k m less v
later k n m least less v up down h = grind (arith, common_steps)

-- the rule speaks of only four words of doubts
redoubted : (k : BoardKey) (n e : ℕ) (d d' least : ℕ → ℕ) (views : List View) → ((w : ℕ) → w < 4 → d w ≡ d' w)
    → Kept k n e d least views → Kept k n e d' least views
redoubted k n e d d' least views same h = grind (arith, common_steps)

-- the rule of some numbers holds of the words that have these numbers
pub in_words : (k : BoardKey) (words : List ℕ) (n e : ℕ) (d least : ℕ → ℕ) (views : List View)
    → length words ≡ length (questions_of k) + 6 → slice_index words 0 ≡ n → slice_index words 1 ≡ e
    → ((w : ℕ) → w < 4 → doubts_in words w ≡ d w) → ((q : ℕ) → least_in words q ≡ least q)
    → Kept k n e d least views → (length words ≡ length (questions_of k) + 6)
    × Kept k (slice_index words 0) (slice_index words 1) (doubts_in words) (least_in words) views
in_words k words n e d least views long next entered doubts places h = grind (arith, common_steps, redoubted)
