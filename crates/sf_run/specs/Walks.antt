-- The run of a program with all that it meets, the numbers that it compares, and where it returns.
use Rattle.std.specs.Prelude.{◌≡◌, ℕ, zero, suc, Bool, List, [], ◌∷◌, ◌++◌, ◌==◌, length, Option, Some, None, slice_get, slice_index, option_map}
use Rattle.sf_run.specs.Common.{Input, Div, passes, Insn, LoadWord, LoadConstant, LoadScratch, LoadLength, Alu, Negate, Branch, ReturnA, Txa, X, Meeting, Met, Tested, Divided, Returned}
use Rattle.sf_run.specs.Machine.{State, Progress, goes, returns, stuck, bits, operand_of, start, step}

-- The word of the input that A holds after an instruction, from the one that it held before: A holds the word that was
-- loaded into it, until another value is put there.
abbrev pub word_after : Option ℕ → Insn → Option ℕ
word_after word (LoadWord loaded) = Some loaded
word_after word (LoadConstant k) = None
word_after word (LoadScratch k) = None
word_after word LoadLength = None
word_after word (Alu op other) = None
word_after word Negate = None
word_after word Txa = None
word_after word _ = word

-- a list with the one thing that is met at this place, where A holds this word of the input
abbrev pub at_place : ℕ → Option ℕ → Met → List Meeting
at_place place word met = record { place = place; word = word; met = met } ∷ []

-- What an instruction meets in a state: the two numbers of a test and its result, the X of a division, or the A that is
-- returned.
abbrev pub meeting_at : State → Option ℕ → Insn → List Meeting
meeting_at s word (Branch test other on_true on_false) =
    at_place s.place word (Tested test s.a (operand_of s other) (passes test s.a (operand_of s other)))
meeting_at s word (Alu Div X) = at_place s.place word (Divided s.x)
meeting_at s word ReturnA = at_place s.place word (Returned s.a)
meeting_at s word _ = []

-- what is met at a place with this instruction, and nothing where the place has none
abbrev pub meeting_in : State → Option ℕ → Option Insn → List Meeting
meeting_in s word (Some i) = meeting_at s word i
meeting_in s word None = []

-- the word of the input that A holds after this instruction; none where the place has no instruction
abbrev pub word_behind : Option ℕ → Option Insn → Option ℕ
word_behind word (Some i) = word_after word i
word_behind word None = None

-- the truth values of what is met
abbrev pub truths : Meeting → List Bool
truths m = by m.met
  where
    by : Met → List Bool
    by (Tested test a other passed) = passed ∷ []
    by (Divided x) = (x == 0) ∷ []
    by (Returned a) = bits 32 a

-- the A that is met by a test or a return; a division meets X
abbrev pub met_a : Met → Option ℕ
met_a (Tested test a other passed) = Some a
met_a (Divided x) = None
met_a (Returned a) = Some a

-- where A is said to hold a word of the input, the A that is met is the number of this word
abbrev pub HoldsItsWord : Input → Meeting → Type 0
HoldsItsWord d m = (word a : ℕ) → m.word ≡ Some word → met_a m.met ≡ Some a → a ≡ slice_index d.words word

-- what a run meets, in order, the place at which it returns, and the value
pub record CourseData : Type 0 where
  pub met : List Meeting
  pub place : ℕ
  pub value : ℕ

-- a run that meets this, and returns the value at the place
abbrev pub course : List Meeting → ℕ → ℕ → CourseData
course met place value = record { met = met; place = place; value = value }

-- the same run, with what was met before it put in front
abbrev pub after : List Meeting → CourseData → CourseData
after met w = course (met ++ w.met) w.place w.value

-- how a run ends that takes this step at `place` and meets `met` there; `rest` says how it ends from the next state on
abbrev pub onward : List Meeting → ℕ → (State → Option CourseData) → Progress → Option CourseData
onward met place rest (goes _ next) = option_map (after met) (rest next)
onward met place rest (returns _ value) = Some (course met place value)
onward met place rest stuck = None

-- the run of at most n steps from a state in which A holds this word of the input; None where it doesn't come to a
-- return
unfoldable pub walk_for : ℕ → List Insn → Input → Option ℕ → State → Option CourseData
walk_for zero code d word s = None
walk_for (suc n) code d word s =
    onward (meeting_in s word (slice_get code s.place)) s.place
    (walk_for n code d (word_behind word (slice_get code s.place))) (step code d s)

-- the walk of a program on an input: its run, with all that it meets; at first A holds no word of the input
unfoldable pub walk_of : List Insn → Input → Option CourseData
walk_of code d = walk_for (length code) code d None start
