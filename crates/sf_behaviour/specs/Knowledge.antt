-- The words that registers are known to have at a place.
use Rattle.std.specs.Prelude.{◌≡◌, ℕ, List, length, Option, Some, None, slice_index_or}
use Rattle.sf_behaviour.specs.Common.{Tree, Bits, State, Word}
use Rattle.sf_behaviour.specs.Registers.{IsRegister, register_by, register_number, with_register}
use Rattle.sf_behaviour.specs.Words.{word_value, IsWord}

-- the known words of all registers, by their numbers
abbrev pub Known : Type 0
Known = List (Option Word)

-- the word that a register is known to have
abbrev pub known_word : Known → ℕ → Option Word
known_word k r = slice_index_or k r None

-- the first knows no more than the second
abbrev pub IsLess : Known → Known → Type 0
IsLess k l = (r : ℕ) (w : Word) → known_word k r ≡ Some w → known_word l r ≡ Some w

-- the number of a register where these variables are true: that of its known word, or else that of its own variables
abbrev pub held_in : List Tree → Known → Bits → ℕ → ℕ
held_in ts k bits r = from (known_word k r)
  where
    from : Option Word → ℕ
    from (Some w) = word_value ts w.bits bits
    from None = register_by r bits

-- the registers of a state that have a number have these numbers
abbrev pub Fits : List Tree → Known → Bits → State → Type 0
Fits ts k bits s = (r n : ℕ) → register_number s r ≡ Some n → n ≡ held_in ts k bits r

-- a word that no register's variables change
pub record IsInputWord (ts : List Tree) (ids : List ℕ) : Type 0 where
  pub word : IsWord ts ids
  pub same : (r n : ℕ) (bits : Bits) → IsRegister r
      → word_value ts ids (with_register r n bits) ≡ word_value ts ids bits

-- known words depend on the input alone
pub record IsKnowledge (ts : List Tree) (k : Known) : Type 0 where
  pub count : length k ≡ 18
  pub each : (r : ℕ) (w : Word) → known_word k r ≡ Some w → IsInputWord ts w.bits
