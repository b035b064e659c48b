-- Calls of which an answer reports success, though they aren't made: ERRNO with data 0.
use Rattle.std.specs.Prelude.{◌≡◌, ◌≢◌, ℕ, ◌<◌, List, All, AllPairs, Contains, Some, slice_get, slice_index}
use Rattle.std.specs.List.{AllZip}
use Rattle.sf_insn.specs.declared.input.Input.{Input}
use Rattle.sf_run.specs.declared.action.Action.TheVariants.{Errno}
use Rattle.sf_run.specs.declared.action.Answer.{Answer}
use Rattle.sf_run.specs.Answers.{Answers}
use Rattle.sf_book.specs.Books.{RegionData, BookData}
use Rattle.sf_ask.specs.Verdicts.{IsMemberAt}

-- ERRNO with data 0: the call isn't made, and its caller gets 0
abbrev pub zero_error : Answer
zero_error = record { action = Errno; info = 0 }

-- some member of the region at a place has this number of a call, and the stack answers it ERRNO 0
pub record IsZeroErrorAt (s : BookData) (place nr : ℕ) : Type 0 where
  pub input : Input
  pub member : IsMemberAt s place input
  pub answers : Answers s.stack input zero_error
  pub word : slice_index input.words 0 ≡ nr

-- Numbers of calls, each once. Each is found in a region before the place `end`, and they stand in the order of these
-- regions.
pub record AreZeroErrors (s : BookData) (end : ℕ) (numbers : List ℕ) : Type 0 where
  pub places : List ℕ
  pub rising : AllPairs (λ earlier later. earlier < later) places
  pub before : All (λ place. place < end) places
  pub each : AllZip (IsZeroErrorAt s) places numbers
  pub once : AllPairs (λ earlier later. earlier ≢ later) numbers

-- of each region before a place that is answered ERRNO 0, some member's number is among these
abbrev pub LeaveNoneOut : BookData → ℕ → List ℕ → Type 0
LeaveNoneOut s end numbers =
    (place : ℕ) (region : RegionData) → place < end → slice_get s.regions place ≡ Some region
    → region.answer ≡ zero_error → (nr : ℕ) × IsZeroErrorAt s place nr × Contains numbers nr
