-- Which input is tried of a piece: it has in each word the least number that the piece's facts, confined to the
-- question, leave.
use Rattle.std.specs.Prelude.{◌≡◌, ℕ, ◌<◌, slice_index}
use Rattle.sf_ask.specs.Common.{Input, IsInput, FactsView, AreConfined, known_at, PieceData, QuestionData, IsNumberOf, IsInQuestion}

-- where the word stands before the place `end`, the number is one that the question leaves for it
abbrev pub IsNumberBefore : QuestionData → ℕ → ℕ → ℕ → Type 0
IsNumberBefore q end word n = word < end → IsNumberOf q word n

-- the input that has in each word the least number that facts leave for it
pub record IsLeastInput (f : FactsView) (d : Input) : Type 0 where
  pub input : IsInput d
  pub is : (word : ℕ) → word < 16 → slice_index d.words word ≡ (known_at f.known word).low

-- the input that is tried of a piece: the least one that the piece's facts, confined to the question, leave
pub record IsTried (p : PieceData) (q : QuestionData) (d : Input) : Type 0 where
  pub facts : FactsView
  pub confined : AreConfined p.facts facts p.pool (IsInQuestion q) (IsNumberBefore q 16)
  pub least : IsLeastInput facts d
