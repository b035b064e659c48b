-- Which filters of a stack are needed, and which are kept.
use Rattle.std.specs.Prelude.{◌≡◌, ◌↔◌, ℕ, zero, suc, ◌<◌, List, [], ◌∷◌, ◌++◌, Option, None, drop, length, map, remove, slice_index_or}
use Rattle.sf_relations.specs.Common.{Input, IsInput, Insn, Answer, Answers, Looser, Example, Needs}
use Rattle.sf_relations.specs.Changes.{IsFinding}

-- For each filter what is found of inputs that get further without it: none, so it is spare; or the least such input,
-- so it is needed.
pub record AreFoundWithout (programs : List (List Insn)) (findings : List (Option Example)) : Type 0 where
  pub count : length findings ≡ length programs
  pub each : (place : ℕ) → place < length programs
      → IsFinding programs (remove programs place) Looser (slice_index_or findings place None)

-- two stacks answer each input alike
abbrev pub AnswerTheSame : List (List Insn) → List (List Insn) → Type 0
AnswerTheSame stack other = (d : Input) (a : Answer) → IsInput d → (Answers stack d a ↔ Answers other d a)

-- the filters at these places
abbrev pub filters_at : List (List Insn) → List ℕ → List (List Insn)
filters_at programs places = map (λ p. slice_index_or programs p []) places

-- what is left without the filter at a place: those that are kept before it, and all behind it
abbrev pub left_without : List (List Insn) → List ℕ → ℕ → List (List Insn)
left_without programs kept place = filters_at programs kept ++ drop (suc place) programs

-- What becomes of the filter at a place, where these are kept before it: it is dropped where those that are left
-- without it answer each input as the whole stack does, and else kept.
pub data IsKeptOrDropped (programs : List (List Insn)) (before : List ℕ) (place : ℕ) (kept : List ℕ) : Type 0 where
  drops : kept ≡ before → AnswerTheSame programs (left_without programs before place)
      → IsKeptOrDropped programs before place kept
  keeps : kept ≡ before ++ place ∷ [] → (AnswerTheSame programs (left_without programs before place) → ⊥)
      → IsKeptOrDropped programs before place kept

-- which of the first filters are kept, where this is decided from the first to the last
abbrev pub AreKeptUpTo : List (List Insn) → ℕ → List ℕ → Type 0
AreKeptUpTo programs zero kept = kept ≡ []
AreKeptUpTo programs (suc place) kept =
    (before : List ℕ) × AreKeptUpTo programs place before × IsKeptOrDropped programs before place kept

-- what is found of each filter, and which filters are kept
pub record AreNeedsOf (programs : List (List Insn)) (needs : Needs) : Type 0 where
  pub findings : AreFoundWithout programs needs.findings.items
  pub kept : AreKeptUpTo programs (length programs) needs.kept.items
