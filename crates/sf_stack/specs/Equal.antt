-- Filters with the same instructions.
use Rattle.std.specs.Prelude.{◌≡◌, ℕ, ◌<◌, List, [], length, slice_index_or}
use Rattle.sf_check.specs.declared.insn.Insn.{Insn}

-- the programs at two places, the first of them before the second, are the same
abbrev pub AreSame : List (List Insn) → ℕ → ℕ → Type 0
AreSame programs earlier later =
    (earlier < later) × (later < length programs)
    × (slice_index_or programs earlier [] ≡ slice_index_or programs later [])

-- no two programs are the same
abbrev pub AreDifferent : List (List Insn) → Type 0
AreDifferent programs = (earlier later : ℕ) → ¬ AreSame programs earlier later

-- The programs at two places are the first that are the same: before the later one all are different, and it is the
-- same as none before the earlier one.
pub record AreFirstSame (programs : List (List Insn)) (earlier later : ℕ) : Type 0 where
  pub same : AreSame programs earlier later
  pub none_later : (i j : ℕ) → j < later → ¬ AreSame programs i j
  pub none_earlier : (i : ℕ) → i < earlier → ¬ AreSame programs i later
