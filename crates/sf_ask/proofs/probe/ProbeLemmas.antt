-- Probes of questions, and the questions that ask about an action.
use Rattle.sf_ask.proofs.Common.{common_steps, ◌≡◌, ℕ, zero, suc, ◌+◌, ◌-◌, ◌<◌, ◌≤◌, ltb, leb, eq-eqb, min, ◌⊎◌, inl, inr, true, false, List, [], ◌∷◌, ◌++◌, length, take, drop, get_or, Some, refl, sym, ◌∙◌, arith, ◌==◌, if◌then◌else◌, All, slice_get, slice_range, Contains, IsPermutation, IsPartitionPoint, ltb-true, leb-false, eqb-true, cases_lt, length-take-le, length-drop, get_or-take, get_or-drop, All-more, All-push, Contains-push, Contains-append_left, All-permutation, Contains-permutation, dite, ℕ_discrete, Action, FactsView, known_at, IsOutside, IsRuledOut, IsRuledOutIfAsked, IsProbeIn, has_one_call, HasProbe, AreProbes, bit_of, has_bit, QuestionData, range_at, is_whole, Probe}
use Rattle.sf_ask.proofs.Words.{outside-range}
use Rattle.sf_ask.proofs.Confinements.{cant-outside}

-- ---- one place after the other

-- a place below the length has an element
pub there-is : {X : Type 0} (xs : List X) (i : ℕ) → i < length xs → (x : X) × (slice_get xs i ≡ Some x)
there-is [] i l = absurd (omega arith)
there-is (x ∷ xs) zero l = (x, refl)
there-is (x ∷ xs) (suc i) l = there-is xs i (omega arith)

-- ---- probes, one after the other, and put in order

pub has-more : (probes : List Probe) (p : Probe) (q : ℕ) → HasProbe probes q → HasProbe (probes ++ p ∷ []) q
has-more probes p q has = (has.0, Contains-append_left probes (p ∷ []) has.0 has.1, has.2)

pub has-pushed : (probes : List Probe) (p : Probe) (q : ℕ) → p.question ≡ q → HasProbe (probes ++ p ∷ []) q
has-pushed probes p q is = (p, Contains-push probes p, is)

pub has-ordered : (before after : List Probe) (q : ℕ) → IsPermutation before after → HasProbe before q
    → HasProbe after q
has-ordered before after q same has = (has.0, Contains-permutation before after has.0 same has.1, has.2)

-- with one probe more, of a question about one call
pub one-call-more : (questions : List QuestionData) (n : ℕ) (by_call others : List Probe) (p : Probe)
    → p.question ≡ n → IsProbeIn questions p → has_one_call p ≡ true
    → AreProbes questions n by_call others → AreProbes questions (n + 1) (by_call ++ p ∷ []) others
one-call-more questions n by_call others p at is one h = record {
  right_calls = All-push (IsProbeIn questions) by_call p h.right_calls is;
  one_call = All-push (λ x. has_one_call x ≡ true) by_call p h.one_call one;
  right_others = h.right_others;
  many_calls = h.many_calls;
  each = λ q l. dite (ℕ_discrete q n)
      (λ e. inl (has-pushed by_call p q (at ∙ sym e)))
      (λ ne. elim (h.each q (omega arith)) [
        | inl has ↦ inl (has-more by_call p q has)
        | inr has ↦ inr has
      ]);
}

-- with one probe more, of another question
pub other-more : (questions : List QuestionData) (n : ℕ) (by_call others : List Probe) (p : Probe)
    → p.question ≡ n → IsProbeIn questions p → has_one_call p ≡ false
    → AreProbes questions n by_call others → AreProbes questions (n + 1) by_call (others ++ p ∷ [])
other-more questions n by_call others p at is many h = record {
  right_calls = h.right_calls;
  one_call = h.one_call;
  right_others = All-push (IsProbeIn questions) others p h.right_others is;
  many_calls = All-push (λ x. has_one_call x ≡ false) others p h.many_calls many;
  each = λ q l. dite (ℕ_discrete q n)
      (λ e. inr (has-pushed others p q (at ∙ sym e)))
      (λ ne. elim (h.each q (omega arith)) [
        | inl has ↦ inl has
        | inr has ↦ inr (has-more others p q has)
      ]);
}

-- with the probes of questions about one call in another order
pub probes-ordered : (questions : List QuestionData) (n : ℕ) (before after others : List Probe)
    → IsPermutation before after → AreProbes questions n before others → AreProbes questions n after others
probes-ordered questions n before after others same h = record {
  right_calls = All-permutation (IsProbeIn questions) before after same h.right_calls;
  one_call = All-permutation (λ x. has_one_call x ≡ true) before after same h.one_call;
  right_others = h.right_others;
  many_calls = h.many_calls;
  each = λ q l. elim (h.each q l) [
    | inl has ↦ inl (has-ordered before after q same has)
    | inr has ↦ inr has
  ];
}

-- between the places where two searches end stand all probes whose low end is in the range
pub found-between : (probes : List Probe) (low high from to : ℕ)
    → IsPartitionPoint (λ y. ltb y.low low ≡ true) (λ y. ltb y.low low ≡ false) probes from
    → IsPartitionPoint (λ y. leb y.low high ≡ true) (λ y. leb y.low high ≡ false) probes to
    → to ≤ length probes → (p : Probe) → Contains probes p → low ≤ p.low → p.low ≤ high
    → Contains (slice_range probes (min from to) to) p
found-between probes low high from to starts ends inside p there above below =
    let k : ℕ = there.0 in
    let a : from ≤ k = search (arith, cases_lt, ltb-true) in
    let b : k < to = search (arith, cases_lt, leb-false) in
    let m : ℕ = min from to in
    let i : ℕ = k - m in
    let long : length (slice_range probes m to) ≡ to - m =
    length-take-le (to - m) (drop m probes) (let d = length-drop m probes in omega arith) in
    let back : m + i ≡ k = omega arith in (search (arith, get_or-take, get_or-drop))

-- ---- bits that are set

-- what is read past the last probe
abbrev pub no_probe : Probe
no_probe = record { question = 0; low = 0; high = 0 }

-- What is so of each of the first probes whose bit isn't set is so of one probe more, where the bits that were set stay
-- set, and it is so of that probe, or its bit is set.
pub added-more : (P : ℕ → Type 0) (probes : List Probe) (old new : List ℕ) (i : ℕ) (d : Probe) → i < length probes
    → ((q : ℕ) → has_bit new q ≡ false → has_bit old q ≡ false)
    → All (λ (p : Probe). has_bit old p.question ≡ false → P p.question) (take i probes)
    → (has_bit new (get_or probes i d).question ≡ false → P (get_or probes i d).question)
    → All (λ (p : Probe). has_bit new p.question ≡ false → P p.question) (take (i + 1) probes)
added-more P probes old new i d l kept before here =
    let Old : Probe → Type 0 = λ p. has_bit old p.question ≡ false → P p.question in
    let New : Probe → Type 0 = λ p. has_bit new p.question ≡ false → P p.question in
    All-more New probes i d l (λ k e lk none. before k e lk (kept (get_or (take i probes) k e).question none)) here

-- a bit that isn't set now wasn't set before another one was
pub bit-kept : (old new : List ℕ) (q p : ℕ) → ((k : ℕ) → bit_of new k ≡ (if k == q then 1 else bit_of old k))
    → has_bit new p ≡ false → has_bit old p ≡ false
bit-kept old new q p set none = grind (arith, common_steps)

-- the bit that was set is set
pub bit-set : (old new : List ℕ) (q : ℕ) → ((k : ℕ) → bit_of new k ≡ (if k == q then 1 else bit_of old k))
    → has_bit new q ≡ false → ⊥
bit-set old new q set none = grind (arith, common_steps, eq-eqb)

-- ---- what is ruled out

-- where what is known of a word leaves no number of its range, the question is ruled out
pub rules-out-at : (q : QuestionData) (word : ℕ) (f : FactsView) → word < 16 → is_whole (range_at q word) ≡ false
    → IsOutside (known_at f.known word) (range_at q word).0 (range_at q word).1 → IsRuledOut f q
rules-out-at q word f l part out pool covers = grind (arith, common_steps, outside-range, cant-outside)

-- one number is not all of them
not-whole : (low high : ℕ) → low ≡ high → is_whole (low, high) ≡ false
not-whole low high e = grind (arith, common_steps, eqb-true)

-- a question about one call is ruled out where what is known of the first word leaves out the call's number
pub call-misses : (f : FactsView) (questions : List QuestionData) (action : Action) (p : Probe) → IsProbeIn questions p
    → has_one_call p ≡ true → (p.low < (known_at f.known 0).low) ⊎ ((known_at f.known 0).high < p.low)
    → IsRuledOutIfAsked f questions action p.question
unfolding IsRuledOutIfAsked
call-misses f questions action p is one outside = λ x asking asked.
    rules-out-at x 0 f (omega arith) (rw (is.of x asking) (not-whole p.low p.high same))
    (rw (is.of x asking) (out outside))
  where
    same : p.low ≡ p.high
    same = eqb-true p.low p.high one

    out : (p.low < (known_at f.known 0).low) ⊎ ((known_at f.known 0).high < p.low)
        → IsOutside (known_at f.known 0) p.low p.high
    out (inl below) = let e = same in inr (omega arith)
    out (inr above) = inl above
