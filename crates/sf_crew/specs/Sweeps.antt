-- What a sweep does: the jobs of each worker, the tally of all regions, and the replies.
use Rattle.std.specs.Prelude.{◌≡◌, ℕ, ◌+◌, ◌*◌, ◌<◌, ◌≤◌, ◌⊎◌, Bool, false, IsTrue, List, length, Some, None, slice_get}
use Rattle.sf_crew.specs.Common.{bit_at, BookData, QuestionData, Input, Reply, IsLowInput, IsBreakAt, IsRightReply, IsFirstBreak, IsLeastExample, IsDoubtful, Never, Allowed, Unsettled, IsPlain, HasHit, IsRightOn, IsRightWhereGiven, HasVerdictAt, HasNoHitAt, HasReply, Clear, Doubt, Tally, Probes, AreProbesOf, bit_of, View}
use Rattle.sf_crew.specs.declared.board.Board.{Board}
use Rattle.sf_crew.specs.declared.board.Seat.{Seat}
use Rattle.sf_crew.specs.Tallies.{IsBelowLeast}
use Rattle.sf_crew.specs.Views.{Noted, questions_of, regions_of}
use Rattle.sf_crew.specs.BoardSteps.{with_notes}
use Rattle.sf_crew.specs.Boards.{about, IsSeatOf, seat_view}

-- what the workers of a sweep share: a board, and the regions and questions that they judge by it
pub record SharedSweepData : Type 0 where
  pub board : Board
  pub settled : BookData
  pub questions : List QuestionData
  pub probes : Probes

-- the board is that of these regions and questions, and the probes are those of the questions
pub record IsSharedSweep (w : SharedSweepData) : Type 0 where
  pub regions : regions_of (about w.board) ≡ w.settled
  pub questions : questions_of (about w.board) ≡ w.questions
  pub probes : AreProbesOf w.questions w.probes

-- looking only adds notes, and each question that isn't wanted has a noted place below the job
pub record SkipsOnly (questions : List QuestionData) (job : ℕ) (v w : View) (wanted : List ℕ) : Type 0 where
  pub same : w ≡ with_notes v w.notes
  pub more : (q r : ℕ) → Noted v.notes q r → Noted w.notes q r
  pub skips : (q : ℕ) → q < length questions → bit_of wanted q ≡ 0 → (r : ℕ) × Noted w.notes q r × (r < job)

-- looking at the 64 questions of one word of bits only adds notes, and each of them that isn't wanted has a noted place
-- below the job
pub record SkipsOnlyIn (word job : ℕ) (v w : View) (wanted : ℕ) : Type 0 where
  pub same : w ≡ with_notes v w.notes
  pub more : (q r : ℕ) → Noted v.notes q r → Noted w.notes q r
  pub skips : (bit : ℕ) → bit < 64 → bit_at wanted bit ≡ 0 → (r : ℕ) × Noted w.notes (word * 64 + bit) r × (r < job)

-- a worker's seat, which is one seat of the board; if the truth value beside it is true, it owes no sheet, and found
-- that no job is left
abbrev pub IsWorked : Board → Seat × Bool → Type 0
IsWorked b s = IsSeatOf b s.0 × ((seat_view s.0).joined_seats ≡ 1)
    × (IsTrue s.1 → ((seat_view s.0).owes ≡ None) × (0 < (seat_view s.0).exhausted_seats))

-- the tally of all regions
pub record IsFullTally (s : BookData) (qs : List QuestionData) (t : Tally) : Type 0 where
  -- the verdict on the region at a least place is a hit
  pub breaks : (q r : ℕ) → slice_get t.least q ≡ Some (Some r) → (r < length s.regions) × HasHit s qs r q
  -- below it the verdict on each region is clear, or a doubt, and then the question's bit is set
  pub cleared : (q r : ℕ) → q < length qs → r < length s.regions → IsBelowLeast t q r → IsRightOn s qs r q Clear
      ⊎ ((bit_of t.doubts q ≡ 1) × IsRightWhereGiven s qs r q (Some Doubt))
  -- a bit is set only where some region is in doubt
  pub doubts : (q : ℕ) → q < length qs → bit_of t.doubts q ≡ 1 → (r : ℕ) × (r < length s.regions)
      × IsRightWhereGiven s qs r q (Some Doubt)
  -- no bit past the last question is set
  pub past : (q : ℕ) → length qs ≤ q → q < 256 → bit_of t.doubts q ≡ 0
  pub counted : t.entered ≡ length s.regions

-- no member of the region breaks the question, or the region is in doubt
abbrev pub IsWithoutHit : BookData → QuestionData → ℕ → Type 0
IsWithoutHit s question r = ((d : Input) → ¬ IsBreakAt s r question d) ⊎ IsDoubtful s r question

-- some region is in doubt, and the verdict on it is a doubt
abbrev pub HasDoubt : BookData → QuestionData → Type 0
HasDoubt s question = (r : ℕ) × (r < length s.regions) × IsDoubtful s r question × HasVerdictAt s r question Doubt

-- The verdict on region r is no hit. Where there is no doubt, it is clear, and no member of the region breaks the
-- question; in any case the low input isn't such a member.
pub record IsUnbroken (s : BookData) (question : QuestionData) (doubt : Bool) (r : ℕ) : Type 0 where
  pub rule : HasNoHitAt s r question
  pub clear : doubt ≡ false → HasVerdictAt s r question Clear
  pub passed : IsWithoutHit s question r
  pub none : doubt ≡ false → (d : Input) → ¬ IsBreakAt s r question d
  pub low : (d : Input) → IsLowInput question d → ¬ IsBreakAt s r question d

-- on a plain stack an example is the least one of the first break, and a question is unsettled only where a piece is
-- outstanding
abbrev pub IsPlainReply : BookData → QuestionData → Reply → Type 0
IsPlainReply s question Never = Unit {0}
IsPlainReply s question (Allowed d) = (r : ℕ) × IsFirstBreak s question r × IsLeastExample s r question d
IsPlainReply s question Unsettled = 0 < length s.outstanding

-- What a reply rests on. An example is the least one of its region, and each earlier region is without a hit. A
-- question is unsettled only where every region is without a hit, and a piece is outstanding or some region is in
-- doubt.
abbrev pub RestsOn : BookData → QuestionData → Reply → Type 0
RestsOn s question Never = Unit {0}
RestsOn s question (Allowed d) = (r : ℕ) × IsLeastExample s r question d × ((e : ℕ) → e < r → IsWithoutHit s question e)
RestsOn s question Unsettled =
    ((r : ℕ) → r < length s.regions → IsWithoutHit s question r) × ((0 < length s.outstanding) ⊎ HasDoubt s question)

-- a reply to a question: it is that of the rules, is right, rests on what was found, and is exact on a plain stack
pub record IsReplyTo (s : BookData) (question : QuestionData) (reply : Reply) : Type 0 where
  pub rule : HasReply s question reply
  pub right : IsRightReply s question reply
  pub found : RestsOn s question reply
  pub plain : IsPlain s.stack → IsPlainReply s question reply

-- there is a question with this number, and this is a reply to it
pub record IsRightReplyAt (s : BookData) (questions : List QuestionData) (q : ℕ) (reply : Reply) : Type 0 where
  pub question : QuestionData
  pub asked : slice_get questions q ≡ Some question
  pub replies : IsReplyTo s question reply

-- these are replies to all questions, in the questions' order
pub record AreRightReplies (s : BookData) (questions : List QuestionData) (replies : List Reply) : Type 0 where
  pub count : length replies ≡ length questions
  pub each : (q : ℕ) (reply : Reply) → slice_get replies q ≡ Some reply → IsRightReplyAt s questions q reply
