-- Why replies are right.
use Rattle.sf_crew.proofs.Common.{gets, ◌≡◌, ℕ, zero, suc, ◌<◌, Bool, true, false, true≢false, List, [], ◌∷◌, ◌++◌, length, Option, Some, None, slice_get, get_or, ◌==◌, ◌⊎◌, sym, refl, ap, ◌∙◌, subst, inl, inr, eqb-true, nil_from_length, same_Some, get_or_from_slice_get, Reply, BookData, IsSettled, Verdict, Hit, Doubt, QuestionData, IsPlain, Tally, bit_of, IsBelowLeast, HasDoubt, IsUnbroken, IsReplyTo, IsFullTally, arith, common_steps, Input, IsExecutionOne, IsFringe, HaveOneVerdict, one_verdict_at, Never, Allowed, Unsettled, IsRightVerdict, TellsTriedAt, in_some_region, HasVerdictAt}

pub reply_never : (s : BookData) (q : QuestionData) (doubt : Bool) → IsSettled s → length s.outstanding ≡ 0
    → doubt ≡ false → ((r : ℕ) → r < length s.regions → IsUnbroken s q doubt r) → IsReplyTo s q Never
reply_never s q doubt h none certain all = let left = nil_from_length s.outstanding none in record {
  rule = (left, λ r l. (all r l).clear certain);
  right = (
    left,
    λ d input breaks. let m = in_some_region s h left d input in
        (all m.0 m.1).none certain d (record { member = m.2; breaks = breaks }),
  );
  found = tt;
  plain = λ _. tt;
}

pub reply_unsettled : (s : BookData) (q : QuestionData) (doubt : Bool) → IsSettled s
    → ((r : ℕ) → r < length s.regions → IsUnbroken s q doubt r)
    → (0 < length s.outstanding) ⊎ HasDoubt s q → (IsPlain s.stack → 0 < length s.outstanding) → IsReplyTo s q Unsettled
reply_unsettled s q doubt h all why left = record {
  rule = (λ r l. (all r l).rule, because why);
  found = (λ r l. (all r l).passed, why);
  right = λ none d input low breaks. let m = in_some_region s h none d input in
      (all m.0 m.1).low d low (record { member = m.2; breaks = breaks });
  plain = left;
}
  where
    because : (0 < length s.outstanding) ⊎ HasDoubt s q
        → (0 < length s.outstanding) ⊎ ((r : ℕ) × HasVerdictAt s r q Doubt)
    because (inl left) = inl left
    because (inr (r, _, _, verdict)) = inr (r, verdict)

-- a hit is the reply where no earlier region has one
pub reply_allowed : (s : BookData) (q : QuestionData) (r : ℕ) (d : Input) → IsRightVerdict s r q (Hit d)
    → TellsTriedAt s r q (Hit d) → HasVerdictAt s r q (Hit d) → (doubt : Bool)
    → ((e : ℕ) → e < r → IsUnbroken s q doubt e) → (IsPlain s.stack → doubt ≡ false) → IsReplyTo s q (Allowed d)
reply_allowed s q r d hit example verdict doubt passed certain = record {
  rule = (r, verdict, λ e l. (passed e l).rule);
  right = (hit.member.input, hit.breaks);
  found = (r, example, λ e l. (passed e l).passed);
  plain = λ plain. (r, record { here = (d, hit); none_earlier = λ e l. (passed e l).none (certain plain) }, example);
}

-- a place that is read is there
pub place_there : (l : List (Option ℕ)) (q x : ℕ) → get_or l q None ≡ Some x → slice_get l q ≡ Some (Some x)
place_there l q x e = grind (arith, common_steps, gets)

-- ---- what the tally of all regions tells of the question of a number

-- each region below the least place is unbroken, and every region where there is none
pub tally_unbroken : (s : BookData) (qs : List QuestionData) (t : Tally) (q : ℕ) (question : QuestionData)
    (doubt : Bool) → IsFullTally s qs t → q < length qs → slice_get qs q ≡ Some question
    → doubt ≡ (bit_of t.doubts q == 1) → (r : ℕ) → r < length s.regions → IsBelowLeast t q r
    → IsUnbroken s question doubt r
tally_unbroken s qs t q question doubt h lt asked is r within below = elim (h.cleared q r lt within below) [
  | inl x ↦ let same : x.question ≡ question = cc (x.asked, asked) in
      subst (λ (y : QuestionData). IsUnbroken s y doubt r) same (record {
        rule = inl x.rule;
        clear = λ _. x.rule;
        passed = inl x.right;
        none = λ _ d. x.right d;
        low = λ d _. x.right d;
      })
  | inr x ↦ let same : x.1.question ≡ question = cc (x.1.asked, asked) in
      let set : true ≡ doubt = sym (is ∙ ap (λ n. n == 1) x.0) in
      subst (λ (y : QuestionData × Bool). IsUnbroken s y.0 y.1 r) (λ i. (same i, set i)) (search (arith, true≢false))
]

-- where there is no least place, every region lies below it
pub below_none : (t : Tally) (q : ℕ) → get_or t.least q None ≡ None → (r : ℕ) → IsBelowLeast t q r
below_none t q none r = grind (arith, common_steps, get_or_from_slice_get)

-- a region below the least place
pub below_place : (t : Tally) (q place : ℕ) → get_or t.least q None ≡ Some place → (r : ℕ) → r < place
    → IsBelowLeast t q r
below_place t q place least r less = grind (arith, common_steps, same_Some, get_or_from_slice_get)

-- the verdict on the region at the least place is a hit, each time
pub hit_again : IsExecutionOne → HaveOneVerdict → (s : BookData) (qs : List QuestionData) (t : Tally) (q : ℕ)
    (question : QuestionData) (place : ℕ) (v : Verdict) → IsFringe s → IsFullTally s qs t
    → get_or t.least q None ≡ Some place → slice_get qs q ≡ Some question → HasVerdictAt s place question v
    → (d : Input) × (Hit d ≡ v)
hit_again tree verdict s qs t q question place v fringe h least asked is =
    let hit = (h.breaks q place (place_there t.least q place least)).1 in
    let same : hit.1.question ≡ question = same_Some hit.1.question question (sym hit.1.asked ∙ asked) in (
      hit.0,
      one_verdict_at tree verdict s s question fringe refl place (Hit hit.0) v
          (subst (λ (x : QuestionData). HasVerdictAt s place x (Hit hit.0)) same hit.1.rule) is,
    )

-- a bit that is set tells of a region in doubt
pub tally_doubtful : (s : BookData) (qs : List QuestionData) (t : Tally) (q : ℕ) (question : QuestionData)
    (doubt : Bool) → IsFullTally s qs t → q < length qs → slice_get qs q ≡ Some question
    → doubt ≡ (bit_of t.doubts q == 1) → doubt ≡ true → HasDoubt s question
tally_doubtful s qs t q question doubt h lt asked is set = grind (arith, common_steps, eqb-true)

-- on a plain stack no bit is set
pub tally_plain : (s : BookData) (qs : List QuestionData) (t : Tally) (q : ℕ) (doubt : Bool) → IsFullTally s qs t
    → q < length qs → doubt ≡ (bit_of t.doubts q == 1) → IsPlain s.stack → doubt ≡ false
tally_plain s qs t q false h lt is plain = refl
tally_plain s qs t q true h lt is plain = grind (arith, common_steps, eqb-true)

-- with one reply more
pub replies_more : (P : ℕ → Reply → Type 0) (xs : List Reply) (x : Reply)
    → ((p : ℕ) (y : Reply) → slice_get xs p ≡ Some y → P p y) → P (length xs) x → (p : ℕ) (y : Reply)
    → slice_get (xs ++ x ∷ []) p ≡ Some y → P p y
replies_more P [] x all this zero y e = subst (P 0) (same_Some x y e) this
replies_more P [] x all this (suc p) y e = absurd (cc)
replies_more P (z ∷ xs) x all this zero y e = all 0 y e
replies_more P (z ∷ xs) x all this (suc p) y e =
    replies_more (λ k. P (suc k)) xs x (λ k w at. all (suc k) w at) this p y e
