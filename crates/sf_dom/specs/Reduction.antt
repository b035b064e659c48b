-- Words for the steps that reduce what is known of one node.
use Rattle.std.specs.Prelude.{◌≡◌, ℕ, ◌+◌, ◌-◌, ◌/◌, ◌<◌, ◌≤◌, ◌^◌}
use Rattle.sf_dom.specs.Common.{bit_at, Known}

-- no bit is set in both
abbrev pub AreApart : ℕ → ℕ → Type 0
AreApart zeros ones = (i : ℕ) → bit_at zeros i + bit_at ones i ≤ 1

-- how much is not known, as a number: it falls where an end moves inwards, and where one more bit is known
abbrev pub freedom : Known → ℕ
freedom k = (k.high - k.low) + (4294967295 - k.zeros) + (4294967295 - k.ones)

-- a mask has exactly the bits i below 32 for which two numbers agree on bit i and on all higher bits
pub record IsLeadingMask (low high mask : ℕ) : Type 0 where
  pub only : (i : ℕ) → bit_at mask i ≡ 1 → low / 2 ^ i ≡ high / 2 ^ i
  pub all : (i : ℕ) → i < 32 → low / 2 ^ i ≡ high / 2 ^ i → bit_at mask i ≡ 1
