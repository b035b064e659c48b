-- What the search for a member in a question does, step by step, for contracts between functions of this crate.
use Rattle.std.specs.Prelude.{◌≡◌, ◌==◌, ◌⊎◌, ℕ, ◌<◌, ◌≤◌, true, false, List, slice_index}
use Rattle.sf_ask.specs.Common.{Input, IsInput, Node, Known, FactsView, LiesIn, HasMasked, CantTakeInBy, between, masked, PieceData, is_member, Verdict, Clear, Hit, Doubt, QuestionData, range_at, mask_at, is_whole, IsNumberOf, IsInQuestion}
use Rattle.sf_ask.specs.Judging.{TakeInRange}
use Rattle.sf_ask.specs.Trying.{IsTried}
use Rattle.sf_ask.specs.Verdicts.{IsLowInput}

-- a number lies in the range of a word
abbrev pub IsInWordRange : QuestionData → ℕ → ℕ → Type 0
IsInWordRange q word n = LiesIn (range_at q word).0 (range_at q word).1 n

-- a number has the bits of the mask of a word
abbrev pub HasMaskBits : QuestionData → ℕ → ℕ → Type 0
HasMaskBits q word n = HasMasked (mask_at q word).0 (mask_at q word).1 n

-- an input has numbers of the question in the words before a place
abbrev pub IsInBefore : QuestionData → ℕ → Input → Type 0
IsInBefore q end d = (word : ℕ) → word < end → IsNumberOf q word (slice_index d.words word)

-- facts can't take in that a word lies in its range
abbrev pub CantTakeInRange : QuestionData → ℕ → List Node → FactsView → Type 0
CantTakeInRange q word ns f = (is_whole (range_at q word) ≡ false)
    × CantTakeInBy f ns word (between (range_at q word).0 (range_at q word).1)

-- facts can't take in that a word has the bits of its mask
abbrev pub CantTakeInMask : QuestionData → ℕ → List Node → FactsView → Type 0
CantTakeInMask q word ns f = (((mask_at q word).0 == 0) ≡ false)
    × CantTakeInBy f ns word (masked (mask_at q word).0 (mask_at q word).1)

-- facts can't take in what the question says of a word
abbrev pub CantTakeInWord : QuestionData → ℕ → List Node → FactsView → Type 0
CantTakeInWord q word ns f = CantTakeInRange q word ns f
    ⊎ ((ranged : FactsView) × TakeInRange q word ns f ranged × CantTakeInMask q word ns ranged)

-- the interval in which a word is known to lie has no number from low to high
abbrev pub IsOutside : Known → ℕ → ℕ → Type 0
IsOutside k low high = (k.high < low) ⊎ (high < k.low)

-- What a search for a member in the question tells is right. Clear: no member is in the question. A hit: the input is a
-- member, and in the question. A doubt: the low input is no member.
abbrev pub IsRightSearch : PieceData → QuestionData → Verdict → Type 0
IsRightSearch p q Clear = (d : Input) → IsInput d → is_member p d ≡ true → ¬ IsInQuestion q d
IsRightSearch p q (Hit d) = IsInput d × (is_member p d ≡ true) × IsInQuestion q d
IsRightSearch p q Doubt = (d : Input) → IsInput d → IsLowInput q d → ¬ (is_member p d ≡ true)

-- A hit has in each word the least number that any member in the question has there; a doubt is of an input that was
-- tried and isn't a member.
abbrev pub TellsTried : PieceData → QuestionData → Verdict → Type 0
TellsTried p q Clear = Unit {0}
TellsTried p q (Hit d) =
    (other : Input) → IsInput other → is_member p other ≡ true → IsInQuestion q other → (word : ℕ) → word < 16
    → slice_index d.words word ≤ slice_index other.words word
TellsTried p q Doubt = (d : Input) × IsTried p q d × (is_member p d ≡ false)
