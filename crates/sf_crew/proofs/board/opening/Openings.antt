-- A new board keeps its rule.
use Rattle.sf_crew.proofs.Common.{common_steps, ◌≡◌, ℕ, zero, suc, ◌+◌, ◌<◌, List, [], ◌∷◌, ◌++◌, length, slice_index, sym, ap, ◌∙◌, subst, arith, bit_at-zero, nat_tests, get_or-append-add, get_or-replicate, some, some-injective, some-ne-none, get_elem?, replicate, length-replicate, BoardKey, questions_of, count_of_regions, Sound, Kept, BoardKept, least_in, doubts_in, first_view}

abbrev pub first_words : ℕ → ℕ → List ℕ
first_words n regions = (0 ∷ 0 ∷ 0 ∷ 0 ∷ 0 ∷ 0 ∷ []) ++ replicate n regions

first_doubts : (n regions w : ℕ) → w < 4 → doubts_in (first_words n regions) w ≡ 0
first_doubts n regions w lt = grind (arith, common_steps)

first_least : (n regions q : ℕ) → q < n → least_in (first_words n regions) q ≡ regions
first_least n regions q lt =
    let turn : slice_index (first_words n regions) (6 + q) ≡ slice_index (replicate n regions) q =
    get_or-append-add (0 ∷ 0 ∷ 0 ∷ 0 ∷ 0 ∷ 0 ∷ []) (replicate n regions) q 0 in
    ap (slice_index (first_words n regions)) (omega arith) ∙ turn ∙ get_or-replicate n q regions 0 lt

only_view : {X : Type 0} (x y : X) (port : ℕ) → get_elem? (x ∷ []) port ≡ some y → x ≡ y
only_view x y zero e = some-injective x y e
only_view x y (suc port) e = absurd (some-ne-none y (sym e))

opened : (k : BoardKey)
    → Sound k 0 (least_in (first_words (length (questions_of k)) (count_of_regions k))) (first_view k)
opened k = grind (arith, common_steps)

pub opens : (k : BoardKey) → Kept k 0 0 (doubts_in (first_words (length (questions_of k)) (count_of_regions k)))
    (least_in (first_words (length (questions_of k)) (count_of_regions k))) (first_view k ∷ [])
opens k = grind (arith, common_steps, nat_tests, first_doubts, bit_at-zero, first_least, only_view, opened)

-- words that are the first words of a board keep its rule
pub opens_at : (k : BoardKey) (words : List ℕ) (n regions : ℕ) → words ≡ first_words n regions
    → n ≡ length (questions_of k) → regions ≡ count_of_regions k
    → BoardKept {S = ℕ} k (record { words = words; homes = []; views = first_view k ∷ [] })
opens_at k words n regions is same small =
    subst (λ (y : List ℕ). BoardKept {S = ℕ} k (record { words = y; homes = []; views = first_view k ∷ [] }))
    (sym (is ∙ (λ i. first_words (same i) (small i))))
    (omega (arith, length-replicate (length (questions_of k)) (count_of_regions k)), opens k)
