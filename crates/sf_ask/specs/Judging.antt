-- Verdicts on regions and replies to questions, by the rules. Where a question doesn't ask about a region's action, the
-- verdict is clear. Else the facts of the region's piece are confined to the question, word after word. If they can't
-- be, the verdict is clear. If they can, one input is tried: it has in each word the least number that the confined
-- facts leave. The verdict is a hit where this input is a member of the region, and a doubt where it isn't.
use Rattle.std.specs.Prelude.{◌≡◌, ℕ, zero, suc, ◌<◌, ◌==◌, ◌⊎◌, Bool, true, false, List, [], length, Some, slice_get, MatchBool}
use Rattle.sf_ask.specs.Common.{Input, Node, FactsView, TakesInBy, between, masked, PieceData, is_member, RegionData, BookData, Verdict, Clear, Hit, Doubt, Reply, Never, Allowed, Unsettled, has_action, QuestionData, range_at, mask_at, is_whole}
use Rattle.sf_ask.specs.Trying.{IsLeastInput}

-- facts take in that a word lies in its range; a range that leaves no number out changes nothing
abbrev pub TakeInRange : QuestionData → ℕ → List Node → FactsView → FactsView → Type 0
TakeInRange q word ns f g = MatchBool (is_whole (range_at q word)) (g ≡ f)
    (TakesInBy f g ns word (between (range_at q word).0 (range_at q word).1))

-- facts take in that a word has its value on the bits of its mask; a mask without bits changes nothing
abbrev pub TakeInMask : QuestionData → ℕ → List Node → FactsView → FactsView → Type 0
TakeInMask q word ns f g = MatchBool ((mask_at q word).0 == 0) (g ≡ f)
    (TakesInBy f g ns word (masked (mask_at q word).0 (mask_at q word).1))

-- facts take in what the question says of a word: its range, and then its mask
pub record TakeInWord (q : QuestionData) (word : ℕ) (ns : List Node) (f g : FactsView) : Type 0 where
  pub ranged : FactsView
  pub range : TakeInRange q word ns f ranged
  pub mask : TakeInMask q word ns ranged g

-- facts take in what the question says of each word before a place, one word after the other
unfoldable pub TakeInBefore : QuestionData → ℕ → List Node → FactsView → FactsView → Type 0
TakeInBefore q zero ns f g = f ≡ g
TakeInBefore q (suc word) ns f g = (h : FactsView) × TakeInBefore q word ns f h × TakeInWord q word ns h g

-- facts are confined to the question
abbrev pub TakeInQuestion : QuestionData → List Node → FactsView → FactsView → Type 0
TakeInQuestion q ns f g = TakeInBefore q 16 ns f g

-- facts can't be confined to the question
abbrev pub CantTakeInQuestion : QuestionData → List Node → FactsView → Type 0
CantTakeInQuestion q ns f = (g : FactsView) → ¬ TakeInQuestion q ns f g

-- The input d is tried: it is the least one that the piece's facts leave, confined to the question. `found` says
-- whether d is a member of the piece.
pub record IsTriedBy (p : PieceData) (q : QuestionData) (d : Input) (found : Bool) : Type 0 where
  pub left : FactsView
  pub confined : TakeInQuestion q p.pool p.facts left
  pub least : IsLeastInput left d
  pub member : is_member p d ≡ found

-- What is found of a piece: clear, where its facts can't be confined to the question; a hit, if the input that is tried
-- is a member; a doubt, if it isn't.
abbrev pub FindsInQuestion : PieceData → QuestionData → Verdict → Type 0
FindsInQuestion p q Clear = CantTakeInQuestion q p.pool p.facts
FindsInQuestion p q (Hit d) = IsTriedBy p q d true
FindsInQuestion p q Doubt = (d : Input) × IsTriedBy p q d false

-- the verdict on a region, which is clear where the question doesn't ask about its action
abbrev pub HasVerdict : RegionData → QuestionData → Verdict → Type 0
HasVerdict region q v = MatchBool (has_action q.actions region.answer.action)
    (FindsInQuestion region.piece q v) (v ≡ Clear)

-- the verdict on the region at a place
pub record HasVerdictAt (s : BookData) (place : ℕ) (q : QuestionData) (v : Verdict) : Type 0 where
  pub region : RegionData
  pub there : slice_get s.regions place ≡ Some region
  pub verdict : HasVerdict region q v

-- the verdict on the region at a place is clear or a doubt
abbrev pub HasNoHitAt : BookData → ℕ → QuestionData → Type 0
HasNoHitAt s place q = HasVerdictAt s place q Clear ⊎ HasVerdictAt s place q Doubt

-- The reply to a question, by the rules: the first hit in the order of names; without one unsettled where a piece is
-- outstanding or some verdict is a doubt, and else never.
abbrev pub HasReply : BookData → QuestionData → Reply → Type 0
HasReply s q Never = (s.outstanding ≡ []) × ((place : ℕ) → place < length s.regions → HasVerdictAt s place q Clear)
HasReply s q (Allowed d) = (place : ℕ) × HasVerdictAt s place q (Hit d)
    × ((earlier : ℕ) → earlier < place → HasNoHitAt s earlier q)
HasReply s q Unsettled = ((place : ℕ) → place < length s.regions → HasNoHitAt s place q)
    × ((0 < length s.outstanding) ⊎ ((place : ℕ) × HasVerdictAt s place q Doubt))
