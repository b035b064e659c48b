-- What the bits of questions tell.
use Rattle.std.proofs.Common.{◌≡◌, ℕ, zero, suc, ◌/◌, ◌%◌, ◌<◌, [], ◌∷◌, slice_index, refl, ap, ◌∙◌, arith}
use Rattle.sf_ask.specs.Common.{bit_at}
use Rattle.std.proofs.lemmas.Nat.Bits.{bit_at_ones}
use Rattle.sf_ask.specs.QuestionBits.{bit_of}

-- each of the four words is m
four : (m w : ℕ) → w < 4 → slice_index (m ∷ m ∷ m ∷ m ∷ []) w ≡ m
four m zero h = refl
four m (suc zero) h = refl
four m (suc (suc zero)) h = refl
four m (suc (suc (suc zero))) h = refl
four m (suc (suc (suc (suc w)))) h = absurd (omega arith)

-- where all bits are set, each of the 256 questions has its bit
pub all-bits : (q : ℕ) → q < 256
    → bit_of (18446744073709551615 ∷ 18446744073709551615 ∷ 18446744073709551615 ∷ 18446744073709551615 ∷ []) q ≡ 1
all-bits q few = ap (λ x. bit_at x (q % 64)) (four 18446744073709551615 (q / 64) (omega (arith, few)))
    ∙ bit_at_ones 64 (q % 64) (omega arith)
