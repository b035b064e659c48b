-- One step after another gives one thing at most, where each step does.
use Rattle.std.proofs.Common.{◌≡◌, sym, ◌∙◌}
use Rattle.std.specs.Prelude.{Option, Some, None, MatchOption}
use Rattle.sf_dom.specs.Rules.{Then}

-- Where the first gives one thing at most, and two others give the same after it, so do both.
pub then-same : {A B : Type 0} (first : Option A → Type 0) (second third : A → Option B → Type 0)
    → ((o p : Option A) → first o → first p → o ≡ p)
    → ((a : A) → first (Some a) → (r s : Option B) → second a r → third a s → r ≡ s)
    → (r s : Option B) → Then first second r → Then first third s → r ≡ s
then-same {A} {B} first second third f g r s h k = both h.0 k.0 (f h.0 k.0 h.1 k.1) h.1 h.2 k.2
  where
    both : (o p : Option A) → o ≡ p → first o → MatchOption o (r ≡ None) (λ a. second a r)
        → MatchOption p (s ≡ None) (λ a. third a s) → r ≡ s
    both None None e i x y = x ∙ sym y
    both None (Some b) e i x y = let clash : None ≡ Some b = e in absurd cc
    both (Some a) None e i x y = let clash : Some a ≡ None = e in absurd cc
    both (Some a) (Some b) e i x y =
        let clash : Some a ≡ Some b = e in
        let same : b ≡ a = cc in g a i r s x (rw same at y)

-- so one step after another gives one thing at most
pub then-one : {A B : Type 0} (first : Option A → Type 0) (second : A → Option B → Type 0)
    → ((o p : Option A) → first o → first p → o ≡ p)
    → ((a : A) → first (Some a) → (r s : Option B) → second a r → second a s → r ≡ s)
    → (r s : Option B) → Then first second r → Then first second s → r ≡ s
then-one first second f g r s h k = then-same first second second f g r s h k
