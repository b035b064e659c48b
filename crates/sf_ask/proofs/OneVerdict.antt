-- The rules give one verdict on a region.
use Rattle.sf_ask.proofs.Common.{◌≡◌, Bool, true, false, refl, sym, ap, ◌∙◌, true≢false, MatchBool, Input, IsPool, FactsView, known_at, HaveOneResult, PieceData, is_member, RegionData, Verdict, Clear, Hit, Doubt, has_action, QuestionData, FindsInQuestion, HasVerdict, IsTriedBy}
use Rattle.sf_ask.proofs.Confinements.{same-before}
use Rattle.sf_ask.proofs.Leasts.{same-input}

-- ---- verdicts and what is found

pub unasked-verdict : (r : RegionData) (q : QuestionData) → has_action q.actions r.answer.action ≡ false
    → HasVerdict r q Clear
unasked-verdict r q none = rw none refl

pub asked-verdict : (r : RegionData) (q : QuestionData) (v : Verdict) → has_action q.actions r.answer.action ≡ true
    → FindsInQuestion r.piece q v → HasVerdict r q v
asked-verdict r q v asked found = rw asked found

-- ---- one input is tried

module _ (laws : HaveOneResult) (q : QuestionData) (p : PieceData) (pool : IsPool p.pool) where
  same-tried : (d e : Input) (a b : Bool) → IsTriedBy p q d a → IsTriedBy p q e b → (d ≡ e) × (a ≡ b)
  same-tried d e a b x y =
      let left = same-before laws p.pool pool q 16 p.facts x.left y.left x.confined y.confined in
      let one : d ≡ e = same-input d e x.least.input.sixteen y.least.input.sixteen (λ word l. x.least.is word l
      ∙ ap (λ (f : FactsView). (known_at f.known word).low) left ∙ sym (y.least.is word l)) in
      (one, sym x.member ∙ ap (is_member p) one ∙ y.member)

  pub one-found : (v w : Verdict) → FindsInQuestion p q v → FindsInQuestion p q w → v ≡ w
  one-found Clear Clear x y = refl
  one-found Clear (Hit e) x y = absurd (x y.left y.confined)
  one-found Clear Doubt x y = absurd (x y.1.left y.1.confined)
  one-found (Hit d) Clear x y = absurd (y x.left x.confined)
  one-found (Hit d) (Hit e) x y = ap Hit (same-tried d e true true x y).0
  one-found (Hit d) Doubt x y = absurd (true≢false (same-tried d y.0 true false x y.1).1)
  one-found Doubt Clear x y = absurd (y x.1.left x.1.confined)
  one-found Doubt (Hit e) x y = absurd (true≢false (sym (same-tried x.0 e false true x.1 y).1))
  one-found Doubt Doubt x y = refl

pub one-verdict : (laws : HaveOneResult) (r : RegionData) (q : QuestionData) (v w : Verdict) → IsPool r.piece.pool
    → HasVerdict r q v → HasVerdict r q w → v ≡ w
one-verdict laws r q v w pool = by (has_action q.actions r.answer.action)
  where
    by : (b : Bool) → MatchBool b (FindsInQuestion r.piece q v) (v ≡ Clear)
        → MatchBool b (FindsInQuestion r.piece q w) (w ≡ Clear) → v ≡ w
    by true x y = one-found laws q r.piece pool v w x y
    by false x y = x ∙ sym y
