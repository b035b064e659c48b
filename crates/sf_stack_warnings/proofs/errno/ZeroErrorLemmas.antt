-- Numbers of calls, added region after region.
use Rattle.sf_stack_warnings.proofs.Common.{◌≡◌, ◌≢◌, ◌⊎◌, inl, inr, ℕ, ◌+◌, ◌<◌, Bool, true, false, not, List, [], ◌∷◌, ◌++◌, Some, slice_get, refl, sym, ap, subst, ◌∙◌, arith, rules, ◌↔◌, Contains, IsTrue, MatchBool, slice_index, nat_cmp, BTreeSet, contains, Updates, cases_lt, nat_cmp_total, common_steps, exact_unsigned, btree_set_contains_iff, All-nil, All-push, All-weaker, AllZip-push, Contains-append_left, Contains-get_or, Contains-push, Contains-push_cases, all_pairs_push, same_Some, Input, IsInput, IsPlain, Answer, Answers, is_member, BookData, RegionData, IsRightRegion, zero_error, IsZeroErrorAt, AreZeroErrors, HaveSame, IsAddedOnce, IsOtherwiseAt, AreAddedBefore}

-- ---- a number is put into a set

set_has : (s : BTreeSet ℕ) (n : ℕ) → IsTrue (contains nat_cmp s n) ↔ Contains s.keys n
set_has s n = btree_set_contains_iff nat_cmp_total exact_unsigned s n

-- whether a number is new
pub is_new : (s : BTreeSet ℕ) (n : ℕ) (b : Bool) → b ≡ not (contains nat_cmp s n)
    → MatchBool b (¬ Contains s.keys n) (Contains s.keys n)
is_new s n b is = let has = set_has s n in grind (arith, common_steps, has.0, has.1)

-- of a set that a number is put into, just this number is more
pub put_one : (s t : BTreeSet ℕ) (n : ℕ) → Updates nat_cmp s t n true → (m : ℕ) → Contains t.keys m
    ↔ (Contains s.keys m ⊎ (m ≡ n))
put_one s t n updates m =
    let new = set_has t m in
    let old = set_has s m in
    let at = updates.0 m in
    (λ there. grind (rules, new.1, old.0, at), λ side. grind (rules, new.0, old.1, at))

-- ---- a number is added once

-- what was in the list is still
kept_added : (n : ℕ) (old new : List ℕ) (m : ℕ) → IsAddedOnce n old new → Contains old m → Contains new m
kept_added n old new m added there = grind (arith, common_steps, Contains-append_left)

-- the number is in it
added_there : (n : ℕ) (old new : List ℕ) → IsAddedOnce n old new → Contains new n
added_there n old new added = let push = Contains-push old n in grind rules

-- nothing else is
only_added : (n : ℕ) (old new : List ℕ) (m : ℕ) → IsAddedOnce n old new → Contains new m → Contains old m ⊎ (m ≡ n)
only_added n old new m (inl (same, absent)) there = inl (rw same at there)
only_added n old new m (inr (more, absent)) there =
    let cases = Contains-push_cases old n m (rw more at there) in
    grind rules

-- a set that gets the same number has the same numbers still
pub same_after : (n : ℕ) (keys more old new : List ℕ) → HaveSame keys old
    → ((m : ℕ) → Contains more m ↔ (Contains keys m ⊎ (m ≡ n))) → IsAddedOnce n old new → HaveSame more new
same_after n keys more old new same put added = λ m.
    let as_put = put m in
    let as_same = same m in (
      λ there. grind (rules, kept_added n old new m added, added_there n old new added),
      λ there. grind (rules, only_added n old new m added),
    )

-- ---- one region more

-- the same numbers, before the next place
further : (s : BookData) (place : ℕ) (numbers : List ℕ) → AreZeroErrors s place numbers
    → AreZeroErrors s (place + 1) numbers
further s place numbers h = record {
  places = h.places;
  rising = h.rising;
  before = All-weaker (λ p. p < place) (λ p. p < place + 1) (λ p less. omega arith) h.places h.before;
  each = h.each;
  once = h.once;
}

-- a number that isn't there yet
pushed : (s : BookData) (place nr : ℕ) (numbers : List ℕ) → AreZeroErrors s place numbers → IsZeroErrorAt s place nr
    → ¬ Contains numbers nr → AreZeroErrors s (place + 1) (numbers ++ nr ∷ [])
unfolding further
pushed s place nr numbers h at absent = record {
  places = h.places ++ place ∷ [];
  rising = all_pairs_push (λ earlier later. earlier < later) h.places place h.rising h.before;
  before = All-push (λ p. p < place + 1) h.places place (further s place numbers h).before (omega arith);
  each = AllZip-push (IsZeroErrorAt s) h.places numbers place nr h.each at;
  once = all_pairs_push (λ earlier later. earlier ≢ later) numbers nr h.once
      (λ k d less same. absent (subst (Contains numbers) same (Contains-get_or numbers k d less)));
}

numbers_more : (s : BookData) (place nr : ℕ) (old new : List ℕ) → AreZeroErrors s place old → IsZeroErrorAt s place nr
    → IsAddedOnce nr old new → AreZeroErrors s (place + 1) new
numbers_more s place nr old new h at added = elim added [
  | inl same ↦ subst (AreZeroErrors s (place + 1)) (sym same.0) (further s place old h)
  | inr more ↦ subst (AreZeroErrors s (place + 1)) (sym more.0) (pushed s place nr old h at more.1)
]

-- the region has another answer: there is nothing to add
pub none_added : (s : BookData) (place : ℕ) (numbers seen : List ℕ) → AreAddedBefore s place numbers seen
    → (IsPlain s.stack → IsOtherwiseAt s place) → AreAddedBefore s (place + 1) numbers seen
none_added s place numbers seen h otherwise = record {
  found = further s place numbers h.found;
  plain = λ plain p region less there is. elim (cases_lt p place) [
    | inl before ↦ h.plain plain p region before there is
    | inr past ↦ (let here : p ≡ place = omega arith in absurd (otherwise plain region (rw here at there) is))
  ];
  same = h.same;
}

-- the region gives a number
pub one_added : (s : BookData) (place nr : ℕ) (old new seen more : List ℕ) → AreAddedBefore s place old seen
    → IsZeroErrorAt s place nr → IsAddedOnce nr old new → HaveSame more new → AreAddedBefore s (place + 1) new more
one_added s place nr old new seen more h at added same = record {
  found = numbers_more s place nr old new h.found at added;
  plain = λ plain p region less there is. elim (cases_lt p place) [
    | inl before ↦ (let earlier = h.plain plain p region before there is in
        (earlier.0, earlier.1, kept_added nr old new earlier.0 added earlier.2))
    | inr past ↦ (let here : place ≡ p = omega arith in
        (nr, subst (λ (n : ℕ). IsZeroErrorAt s n nr) here at, added_there nr old new added))
  ];
  same = same;
}

-- at first there is no number
pub first_added : (s : BookData) (numbers seen : List ℕ) → numbers ≡ [] → seen ≡ []
    → AreAddedBefore s 0 numbers seen
first_added s numbers seen no_number none = rw no_number (record {
  found = record {
    places = [];
    rising = λ i j d less within. absurd (omega arith);
    before = All-nil (λ p. p < 0);
    each = search rules;
    once = λ i j d less within. absurd (omega arith);
  };
  plain = λ plain p region less. absurd (omega arith);
  same = subst (λ (xs : List ℕ). HaveSame xs []) (sym none) (λ n. (λ h. h, λ h. h));
})

-- a member of a region that is answered ERRNO 0
pub number_found : (s : BookData) (place : ℕ) (region : RegionData) (d : Input)
    → slice_get s.regions place ≡ Some region → IsRightRegion s.stack region → region.answer ≡ zero_error → IsInput d
    → is_member region.piece d ≡ true → IsZeroErrorAt s place (slice_index d.words 0)
number_found s place region d there right is input member = record {
  input = d;
  member = record { region = region; there = there; input = input; member = member };
  answers = subst (λ (a : Answer). Answers s.stack d a) is (right.answers d input member);
  word = refl;
}

-- a region that is answered otherwise
pub otherwise_at : (s : BookData) (place : ℕ) (region : RegionData) → slice_get s.regions place ≡ Some region
    → (region.answer ≡ zero_error → ⊥) → IsOtherwiseAt s place
otherwise_at s place region there other = λ r here is.
    other (ap (λ (x : RegionData). x.answer) (same_Some region r (sym there ∙ here)) ∙ is)
