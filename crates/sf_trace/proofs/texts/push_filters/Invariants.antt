use Rattle.sf_trace.proofs.Common.{◌≡◌, ◌+◌, ◌++◌, ℕ, List, drop, string_bytes, AreFilterLines}
use Rattle.sf_trace.proofs.texts.push_filters.Given as goal

-- whatever stands under the filters that are left, it completes what was written
abbrev pub invariant-loop-i : goal.invariant-loop-i
invariant-loop-i l = (rest : List ℕ) → AreFilterLines l.listed (l.i + 1) (drop l.i l.programs) rest
    → (lines : List ℕ) × AreFilterLines l.listed 1 l.programs lines
    × (string_bytes l.text ++ rest ≡ string_bytes l.initial.text ++ lines)
