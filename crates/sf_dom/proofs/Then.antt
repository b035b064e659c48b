-- One step after another: what holds of what both give; and one place after another.
use Rattle.sf_dom.proofs.Common.{Option, Some, MatchOption, IfSome, Then, common_steps, arith, ℕ, ◌≡◌, ◌<◌, zero, suc, inl, inr, cases_lt}

-- where the first gives something of a kind, and then the second does, both do
pub then-some : {A B : Type 0} (first : Option A → Type 0) (second : A → Option B → Type 0) (kind : A → Type 0)
    (other : B → Type 0) → ((o : Option A) → first o → MatchOption o ⊥ kind)
    → ((a : A) → first (Some a) → kind a → (r : Option B) → second a r → MatchOption r ⊥ other)
    → (r : Option B) → Then first second r → MatchOption r ⊥ other
then-some {A} {B} first second kind other f g r h = grind (arith, common_steps)

-- what both give comes from something that the first gives
pub then-if : {A B : Type 0} (first : Option A → Type 0) (second : A → Option B → Type 0) (other : B → Type 0)
    → ((a : A) → first (Some a) → (r : Option B) → second a r → IfSome r other)
    → (r : Option B) → Then first second r → IfSome r other
then-if {A} {B} first second other g r h = grind (arith, common_steps)

-- what is so at each place where it is so at all places before, is so at all places
pub by-older : (kind : ℕ → Type 0) (m : ℕ) → ((k : ℕ) → k < m → ((j : ℕ) → j < k → kind j) → kind k)
    → (k : ℕ) → k < m → kind k
by-older kind zero h k l = absurd (omega arith)
by-older kind (suc m) h k l =
    let before = by-older kind m (λ j b. h j (omega arith)) in
    elim (cases_lt k m) [
      | inl b ↦ before k b
      | inr g ↦ let e : k ≡ m = omega arith in rw e (h m (omega arith) before)
    ]
