-- Diagrams in which a word stands in the place of a register.
use Rattle.sf_behaviour.proofs.Common.{◌≡◌, ℕ, ◌<◌, ◌^◌, Bool, false, Some, List, length, sym, ◌∙◌, inl, inr, arith, if◌then◌else◌, cases_eq, Tree, Fork, Bits, value, tree_at, KeepsTrees, chosen_of, IsTruthOf, with_register, IsReplaced, BTreeMap, is_at, Updates, nat_cmp, nat_tests, IsChosen, AreReplaced}

-- ---- one diagram

pub replaced-kept : {r : ℕ} {ts us : List Tree} {f : Bits → ℕ} {id new : ℕ} → KeepsTrees ts us
    → IsReplaced r ts f id new → IsReplaced r us f id new
replaced-kept {r} {f} {id} {new} k h = record {
  id_within = omega (arith, k.longer, h.id_within);
  within = omega (arith, k.longer, h.within);
  values = λ bits. rw (k.same new h.within, k.same id h.id_within) (h.values bits);
}

-- its value, by the tree that was there before
pub replaced-value : {r : ℕ} {ts us : List Tree} {f : Bits → ℕ} {id new : ℕ} (bits : Bits) → KeepsTrees ts us
    → id < length ts → IsReplaced r us f id new
    → value (tree_at us new) bits ≡ value (tree_at ts id) (with_register r (f bits) bits)
replaced-value {id = id} bits k within h = rw (← k.same id within) (h.values bits)

pub choice-if : (b : Bool) (p q : ℕ) → chosen_of (if b then 1 else 0) p q ≡ (if b then p else q)
choice-if b p q = grind arith

pub less-if : (b : Bool) (m n : ℕ) → m < 2 ^ 32 → n < 2 ^ 32 → (if b then m else n) < 2 ^ 32
less-if b m n l k = grind arith

-- What is chosen of the two sides of a fork, replaced, is the fork, replaced: s0 has the fork, s3 the sides, and what
-- stands in the place of the variable.
pub replaced-made : {r : ℕ} {f : Bits → ℕ} {s0 s3 s4 : List Tree} {v id lower higher low high bit : ℕ} (new : ℕ)
    → KeepsTrees s0 s3 → KeepsTrees s3 s4 → id < length s0 → lower < length s0 → higher < length s0
    → tree_at s0 id ≡ Fork v (tree_at s0 lower) (tree_at s0 higher)
    → IsReplaced r s3 f lower low → IsReplaced r s3 f higher high
    → IsTruthOf s3 bit (λ bits. if with_register r (f bits) bits v then 1 else 0) → new < length s4
    → IsChosen (tree_at s3 bit) (tree_at s3 high) (tree_at s3 low) (tree_at s4 new) → IsReplaced r s4 f id new
replaced-made {r} {f} {s0} {v} {id} {lower} {higher} new k m inside ll lh fork low_is high_is bit_is within chosen =
    record {
      id_within = omega (arith, inside, k.longer, m.longer);
      within = within;
      values = λ bits.
          let there : Bits = with_register r (f bits) bits in
          let higher_value = replaced-value bits k lh high_is in
          let lower_value = replaced-value bits k ll low_is in
          let same = m.same id (omega (arith, inside, k.longer)) ∙ k.same id inside ∙ fork in
          chosen.values bits ∙ rw (bit_is.values bits, higher_value, lower_value, same)
          (choice-if (there v) (value (tree_at s0 higher) there) (value (tree_at s0 lower) there));
    }

-- ---- all that were made

pub all-kept : {r : ℕ} {ts us : List Tree} {f : Bits → ℕ} {m : BTreeMap ℕ ℕ} → KeepsTrees ts us
    → AreReplaced r ts f m → AreReplaced r us f m
all-kept k h = record {
  each = λ id new at. replaced-kept k (h.each id new at);
}

other-key : (i j : ℕ) → (j ≡ i → ⊥) → is_at (nat_cmp i) j ≡ false
other-key i j ne = grind (arith, nat_tests)

-- with one more
pub all-put : {r : ℕ} {ts : List Tree} {f : Bits → ℕ} {m : BTreeMap ℕ ℕ} (n : BTreeMap ℕ ℕ) {id new : ℕ}
    → Updates nat_cmp m n id (Some new) → AreReplaced r ts f m → IsReplaced r ts f id new → AreReplaced r ts f n
all-put {r} {ts} {f} n {id} {new} put h one = record {
  each = λ q made at. elim (cases_eq q id) [
    | inl e ↦ (let same : made ≡ new = grind (arith, put.1) in rw (e, same) one)
    | inr ne ↦ h.each q made (sym (put.2 q (other-key id q ne)) ∙ at)
  ];
}
