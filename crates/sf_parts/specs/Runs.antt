-- The numbers of a word in runs: numbers in a row, behind which the same comes.
use Rattle.std.specs.Prelude.{ℕ, zero, suc, ◌+◌, ◌%◌, ◌^◌, ◌==◌, List, [], ◌∷◌, nat_le, if◌then◌else◌}
use Rattle.std.specs.Int.{bit_at, trailing_zeros, w32}
use Rattle.std.specs.Int.RustNames.{count_ones}
use Rattle.sf_diagram.specs.Trees.{Tree}
use Rattle.sf_parts.specs.Words.{is_in, is_same_tree, tested, lower_at, higher_at}

-- the numbers that under a mask are from the first to the last, and what comes behind them
pub record RunData : Type 0 where
  pub first : ℕ
  pub last : ℕ
  pub behind : Tree

-- All bits, where besides those below the lowest bit at most two are missing; else the bits themselves. So 0 and 8 are
-- listed as these two numbers, and not as what is 0 but for the bit 8.
abbrev pub mask_for : ℕ → ℕ
mask_for bits = if nat_le 30 (count_ones bits + trailing_zeros w32 bits) then 0xffffffff else bits

-- a run before others: one with the first of these, where the same comes behind
abbrev pub with_run : ℕ → ℕ → Tree → List RunData → List RunData
with_run first last t [] = record { first = first; last = last; behind = t } ∷ []
with_run first last t (r ∷ rest) =
    if is_same_tree r.behind t
    then record { first = first; last = r.last; behind = t } ∷ rest
    else record { first = first; last = last; behind = t } ∷ r ∷ rest

-- the runs of the numbers that differ from `first` in their lowest n bits only, before others
unfoldable pub runs_before : ℕ → ℕ → ℕ → ℕ → Tree → List RunData → List RunData
runs_before word mask zero first t rest = with_run first first t rest
runs_before word mask (suc n) first t rest =
    if is_in word t then (
    if bit_at mask n == 1
    then runs_before word mask n first (lower_at n t) (runs_before word mask n (first + 2 ^ n) (higher_at n t) rest)
    else runs_before word mask n first t rest
    ) else with_run first (first + mask % 2 ^ suc n) t rest

-- the mask under which a word of a tree is listed
abbrev pub mask_in : ℕ → Tree → ℕ
mask_in word t = mask_for (tested word t)

-- the runs of a word of a tree
abbrev pub runs_in : ℕ → Tree → List RunData
runs_in word t = runs_before word (mask_in word t) 32 0 t []
