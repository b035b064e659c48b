-- The feasible traces of a stack: those that some input has.
use Rattle.std.specs.Prelude.{◌≡◌, ◌↔◌, ℕ, zero, suc, ◌^◌, Bool, List, [], ◌∷◌, map, Contains}
use Rattle.sf_run.specs.Common.{flat_map, range_with_len, bool_cmp, match_ordering, slice_cmp, IsStrictlySortedBy, Input, IsInput, Insn}
use Rattle.sf_run.specs.Machine.{trace_of}

-- some input has this trace
abbrev pub IsFeasible : List (List Insn) → List Bool → Type 0
IsFeasible programs t = (d : Input) × IsInput d × (trace_of programs d ≡ t)

-- Traces in name order, each once. The first truth value in which two differ decides, and false comes before true. A
-- trace with which a longer one begins comes before that.
abbrev pub AreInNameOrder : List (List Bool) → Type 0
AreInNameOrder ts = IsStrictlySortedBy (slice_cmp bool_cmp) ts

-- the list of all feasible traces of a stack, in name order
pub record AreFeasibleTraces (programs : List (List Insn)) (ts : List (List Bool)) : Type 0 where
  pub order : AreInNameOrder ts
  pub exactly : (t : List Bool) → Contains ts t ↔ IsFeasible programs t

-- ---- that list: the traces of all inputs, sorted, each once

-- all lists of n numbers below m
unfoldable pub lists_below : ℕ → ℕ → List (List ℕ)
lists_below zero m = [] ∷ []
lists_below (suc n) m = flat_map (λ ns. map (λ k. k ∷ ns) (range_with_len 0 m)) (lists_below n m)

-- the input of these words
abbrev pub input_of : List ℕ → Input
input_of words = record { words = words }

-- all inputs
unfoldable pub all_inputs : List Input
all_inputs = map input_of (lists_below 16 (2 ^ 32))

-- a trace put at its place among traces in name order, unless it is there
abbrev pub put_in : List Bool → List (List Bool) → List (List Bool)
put_in t [] = t ∷ []
put_in t (u ∷ us) = match_ordering (slice_cmp bool_cmp t u) (t ∷ u ∷ us) (u ∷ us) (u ∷ put_in t us)

-- the traces of a list, put in name order, each once
abbrev pub in_name_order : List (List Bool) → List (List Bool)
in_name_order [] = []
in_name_order (t ∷ ts) = put_in t (in_name_order ts)

-- the feasible traces of a stack, in name order
unfoldable pub feasible_traces : List (List Insn) → List (List Bool)
feasible_traces programs = in_name_order (map (trace_of programs) all_inputs)
