-- The rules give one reply to a question.
use Rattle.sf_ask.proofs.Common.{◌≡◌, ℕ, ◌<◌, [], length, refl, sym, ap, subst, ◌⊎◌, inl, inr, arith, cases_lt, slice_get_within, Input, IsExecutionOne, BookData, IsFringe, ExplorationsHaveOneResult, Verdict, Clear, Hit, Doubt, Reply, Never, Allowed, Unsettled, QuestionData, HasVerdictAt, HasNoHitAt, HasReply, HaveOneVerdict, IsWholeFringe, one_verdict_at}

-- the regions and the question of two explorations, of which the first is a fringe
module _ (tree : IsExecutionOne) (verdict : HaveOneVerdict) (s t : BookData) (q : QuestionData) (fringe : IsFringe s)
    (same : s.regions ≡ t.regions) where
  one-at : (place : ℕ) (v w : Verdict) → HasVerdictAt s place q v → HasVerdictAt t place q w → v ≡ w
  one-at = one_verdict_at tree verdict s t q fringe same

  -- a hit on the first side is no clear verdict and no doubt on the other
  hit-or-none : (place : ℕ) (d : Input) → HasVerdictAt s place q (Hit d) → HasNoHitAt t place q → ⊥
  hit-or-none place d a (inl b) = let e : Hit d ≡ Clear = one-at place (Hit d) Clear a b in absurd cc
  hit-or-none place d a (inr b) = let e : Hit d ≡ Doubt = one-at place (Hit d) Doubt a b in absurd cc

  within : (place : ℕ) (v : Verdict) → HasVerdictAt s place q v → place < length t.regions
  within place v a = omega (arith, slice_get_within s.regions place a.region a.there, ap length same)

  allowed-or-never : (d : Input) → HasReply s q (Allowed d) → HasReply t q Never → ⊥
  allowed-or-never d a b = hit-or-none a.0 d a.1 (inl (b.1 a.0 (within a.0 (Hit d) a.1)))

  allowed-or-unsettled : (d : Input) → HasReply s q (Allowed d) → HasReply t q Unsettled → ⊥
  allowed-or-unsettled d a b = hit-or-none a.0 d a.1 (b.0 a.0 (within a.0 (Hit d) a.1))

  -- no doubt on the first side where all is clear on the other
  unsettled-or-never : s.outstanding ≡ [] → (0 < length s.outstanding) ⊎ ((place : ℕ) × HasVerdictAt s place q Doubt)
      → HasReply t q Never → ⊥
  unsettled-or-never none (inl left) b = let l : length s.outstanding ≡ 0 = ap length none in omega arith
  unsettled-or-never none (inr (place, a)) b =
      let e : Doubt ≡ Clear = one-at place Doubt Clear a (b.1 place (within place Doubt a)) in absurd cc

-- the same of two fringes, either of which may be the first
module _ (tree : IsExecutionOne) (verdict : HaveOneVerdict) (s t : BookData) (q : QuestionData) (f : IsFringe s)
    (g : IsFringe t) (same : s.regions ≡ t.regions) where
  one-example : (d e : Input) → HasReply s q (Allowed d) → HasReply t q (Allowed e) → d ≡ e
  one-example d e a b = elim (cases_lt a.0 b.0) [
    | inl less ↦ absurd (hit-or-none tree verdict s t q f same a.0 d a.1 (b.2 a.0 less))
    | inr from ↦ elim (cases_lt b.0 a.0) [
      | inl less ↦ absurd (hit-or-none tree verdict t s q g (sym same) b.0 e b.1 (a.2 b.0 less))
      | inr to ↦
          let place : b.0 ≡ a.0 = omega arith in
          let one : Hit d ≡ Hit e = one_verdict_at tree verdict s t q f same a.0 (Hit d) (Hit e) a.1
          (subst (λ (n : ℕ). HasVerdictAt t n q (Hit e)) place b.1) in cc
    ]
  ]

  pub one-by-verdicts : s.outstanding ≡ [] → t.outstanding ≡ [] → (x y : Reply) → HasReply s q x → HasReply t q y
      → x ≡ y
  one-by-verdicts none none' Never Never a b = refl
  one-by-verdicts none none' Never (Allowed d) a b = absurd (allowed-or-never tree verdict t s q g (sym same) d b a)
  one-by-verdicts none none' Never Unsettled a b =
      absurd (unsettled-or-never tree verdict t s q g (sym same) none' b.1 a)
  one-by-verdicts none none' (Allowed d) Never a b = absurd (allowed-or-never tree verdict s t q f same d a b)
  one-by-verdicts none none' (Allowed d) (Allowed e) a b = ap Allowed (one-example d e a b)
  one-by-verdicts none none' (Allowed d) Unsettled a b = absurd (allowed-or-unsettled tree verdict s t q f same d a b)
  one-by-verdicts none none' Unsettled Never a b =
      absurd (unsettled-or-never tree verdict s t q f same none a.1 b)
  one-by-verdicts none none' Unsettled (Allowed d) a b =
      absurd (allowed-or-unsettled tree verdict t s q g (sym same) d b a)
  one-by-verdicts none none' Unsettled Unsettled a b = refl

pub one-reply : ExplorationsHaveOneResult → IsExecutionOne → HaveOneVerdict
    → (s t : BookData) (q : QuestionData) (x y : Reply)
    → IsWholeFringe s → IsWholeFringe t → s.stack ≡ t.stack → HasReply s q x → HasReply t q y → x ≡ y
one-reply explored tree verdict s t q x y f g stack a b =
    let one = explored s t f.settled g.settled f.fringe g.fringe stack f.none_left g.none_left in
    one-by-verdicts tree verdict s t q f.fringe g.fringe one.regions f.none_left g.none_left x y a b
