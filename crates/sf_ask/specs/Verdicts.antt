-- When a verdict on a region, and a reply to a question, are right.
use Rattle.std.specs.Prelude.{◌≡◌, ℕ, ◌<◌, ◌≤◌, true, false, [], Some, slice_get, slice_index}
use Rattle.sf_ask.specs.Common.{Input, IsInput, is_member, RegionData, BookData, Verdict, Clear, Hit, Doubt, Reply, Never, Allowed, Unsettled, has_action, QuestionData, IsNumberOf, IsInQuestion, Breaks}
use Rattle.sf_ask.specs.Trying.{IsTried}

-- the low input of a question: it has in each word the least number that the question leaves for it
pub record IsLowInput (q : QuestionData) (d : Input) : Type 0 where
  pub inside : IsInQuestion q d
  pub least : (word n : ℕ) → word < 16 → IsNumberOf q word n → slice_index d.words word ≤ n

-- an input is a member of the region at a place
pub record IsMemberAt (s : BookData) (place : ℕ) (d : Input) : Type 0 where
  pub region : RegionData
  pub there : slice_get s.regions place ≡ Some region
  pub input : IsInput d
  pub member : is_member region.piece d ≡ true

-- a member of the region at a place breaks the question
pub record IsBreakAt (s : BookData) (place : ℕ) (q : QuestionData) (d : Input) : Type 0 where
  pub member : IsMemberAt s place d
  pub breaks : Breaks s.stack q d

-- A verdict on the region at a place is right: where it is clear, no member breaks the question; a hit is such a
-- member; and where there is a doubt, the low input is no such member.
abbrev pub IsRightVerdict : BookData → ℕ → QuestionData → Verdict → Type 0
IsRightVerdict s place q Clear = (d : Input) → ¬ IsBreakAt s place q d
IsRightVerdict s place q (Hit d) = IsBreakAt s place q d
IsRightVerdict s place q Doubt = (d : Input) → IsLowInput q d → ¬ IsBreakAt s place q d

-- A reply is right: never, where nothing is outstanding and no input breaks the question; allowed, with an input that
-- breaks it; and unsettled only where a piece is outstanding or the low input doesn't break it.
abbrev pub IsRightReply : BookData → QuestionData → Reply → Type 0
IsRightReply s q Never = (s.outstanding ≡ []) × ((d : Input) → IsInput d → ¬ Breaks s.stack q d)
IsRightReply s q (Allowed d) = IsInput d × Breaks s.stack q d
IsRightReply s q Unsettled = s.outstanding ≡ [] → (d : Input) → IsInput d → IsLowInput q d → ¬ Breaks s.stack q d

-- the first region, in the order of names, with a member that breaks the question
pub record IsFirstBreak (s : BookData) (q : QuestionData) (place : ℕ) : Type 0 where
  pub here : (d : Input) × IsBreakAt s place q d
  pub none_earlier : (earlier : ℕ) → earlier < place → (d : Input) → ¬ IsBreakAt s earlier q d

-- the least example of a region: it has in each word the least number that any member in the question has there
pub record IsLeastExample (s : BookData) (place : ℕ) (q : QuestionData) (d : Input) : Type 0 where
  pub breaks : IsBreakAt s place q d
  pub least : (other : Input) → IsMemberAt s place other → IsInQuestion q other → (word : ℕ) → word < 16
      → slice_index d.words word ≤ slice_index other.words word

-- the region at a place is in doubt: its action is asked about, and an input that was tried isn't a member of it
pub record IsDoubtful (s : BookData) (place : ℕ) (q : QuestionData) : Type 0 where
  pub region : RegionData
  pub there : slice_get s.regions place ≡ Some region
  pub asked : has_action q.actions region.answer.action ≡ true
  pub tried : Input
  pub is : IsTried region.piece q tried
  pub outside : is_member region.piece tried ≡ false

-- a hit is the least example of its region, and there is a doubt only where the region is in doubt
abbrev pub TellsTriedAt : BookData → ℕ → QuestionData → Verdict → Type 0
TellsTriedAt s place q Clear = Unit {0}
TellsTriedAt s place q (Hit d) = IsLeastExample s place q d
TellsTriedAt s place q Doubt = IsDoubtful s place q

-- a verdict that leaves no doubt
abbrev pub IsDecisive : Verdict → Type 0
IsDecisive Clear = Unit {0}
IsDecisive (Hit d) = Unit {0}
IsDecisive Doubt = ⊥
