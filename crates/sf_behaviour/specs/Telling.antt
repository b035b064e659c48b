-- How places come to be known, and diagrams that tell what runs return from them.
use Rattle.std.specs.Prelude.{◌≡◌, ℕ, List, Option, Some, None, slice_set, ◌+◌, ◌<◌, ◌≤◌, ◌^◌, Bool, length, map, Contains, slice_get, slice_index, slice_index_or}
use Rattle.sf_behaviour.specs.Common.{Insn, IsLawfulProgram, State, run_for, Tree, Bits, value, tree_at, Word, Effect, Sets, Source, Step}
use Rattle.sf_behaviour.specs.Knowledge.{Known, held_in, IsInputWord, IsLess, Fits, IsKnowledge}
use Rattle.sf_behaviour.specs.Effects.{source_in, places_after, IsEffectOf}
use Rattle.sf_behaviour.specs.Registers.{IsRegister}
use Rattle.sf_behaviour.specs.Words.{IsWordOf}
use Rattle.sf_behaviour.specs.InputBits.{input_by}

-- as much is known as before, but of one register the word of a source, if that word depends on the input alone
pub record IsSetTo (ts : List Tree) (k : Known) (r : ℕ) (source : Source) (after : Known) : Type 0 where
  pub word : Option Word
  pub is : after ≡ slice_set k r word
  pub fixed : (w : Word) → word ≡ Some w → IsInputWord ts w.bits
      × IsWordOf ts w.bits (λ bits. source_in ts k bits source)

-- what is known behind an effect
abbrev pub IsAfter : List Tree → Known → Effect → Known → Type 0
IsAfter ts k (Sets r source) after = IsSetTo ts k r source after
IsAfter ts k _ after = after ≡ k

-- something is known so far, and no more than this
abbrev pub IsMet : Option Known → Known → Type 0
IsMet (Some l) k = IsLess l k
IsMet None k = ⊥

-- what is known so far of a place, if something is
abbrev pub known_of : List (Option Known) → ℕ → Option Known
known_of known place = slice_index_or known place None

-- what is known of places is right
abbrev pub AreKnown : List Tree → List (Option Known) → Type 0
AreKnown ts known = (place : ℕ) (k : Known) → known_of known place ≡ Some k → IsKnowledge ts k

-- no more is known of places than before, and of some of them no more than this
pub record IsCarried (old new : List (Option Known)) (after : Known) (places : List ℕ) : Type 0 where
  pub count : length new ≡ length old
  pub leads : (place : ℕ) → place < length old → Contains places place → IsMet (known_of new place) after
  pub stays : (place : ℕ) (k : Known) → IsMet (known_of old place) k → IsMet (known_of new place) k
  pub right : (ts : List Tree) → IsKnowledge ts after → AreKnown ts old → AreKnown ts new

-- A diagram whose value, on each input, is what a run returns that goes on from this place, where the known registers
-- have their words. The others may have any number. Its values are words.
pub record Tells (code : List Insn) (place : ℕ) (ts : List Tree) (k : Known) (id : ℕ) : Type 0 where
  pub within : id < length ts
  pub small : (bits : Bits) → value (tree_at ts id) bits < 2 ^ 32
  pub values : (bits : Bits) (s : State) (n : ℕ) (o : List Bool × ℕ) → s.place ≡ place → Fits ts k bits s
      → run_for n code (input_by bits) s ≡ Some o → value (tree_at ts id) bits ≡ o.1

-- the instructions of steps
abbrev pub insns_of : List Step → List Insn
insns_of steps = map (λ step. step.insn) steps

-- what is said of a step is right
pub record IsStep (ts : List Tree) (step : Step) : Type 0 where
  pub effect : IsEffectOf step.insn step.effect
  pub known : IsKnowledge ts step.known
  pub after : IsAfter ts step.known step.effect step.after

-- Steps that are right. No place knows more than is known behind each step that leads to it; and at the start all
-- registers are 0.
pub record AreSteps (ts : List Tree) (steps : List Step) : Type 0 where
  pub each : (place : ℕ) (step : Step) → slice_get steps place ≡ Some step → IsStep ts step
  pub less : (p q : ℕ) (step next : Step) → slice_get steps p ≡ Some step → slice_get steps q ≡ Some next
      → Contains (places_after p step.effect) q → IsLess next.known step.after
  pub start : (step : Step) (r : ℕ) (bits : Bits) → slice_get steps 0 ≡ Some step → IsRegister r
      → held_in ts step.known bits r ≡ 0

-- such diagrams for the places of a program, from one on
pub record TellFrom (ts : List Tree) (steps : List Step) (ids : List ℕ) (first : ℕ) : Type 0 where
  pub count : length ids ≡ length steps
  pub each : (place : ℕ) (step : Step) → first ≤ place → slice_get steps place ≡ Some step
      → Tells (insns_of steps) place ts step.known (slice_index ids place)

-- a place with its step, where the diagrams of all places behind it are made
pub record IsPlace (ts : List Tree) (steps : List Step) (ids : List ℕ) (place : ℕ) (step : Step) : Type 0 where
  pub lawful : IsLawfulProgram (insns_of steps)
  pub are : AreSteps ts steps
  pub inside : place < length steps
  pub at : slice_get steps place ≡ Some step
  pub behind : TellFrom ts steps ids (place + 1)

-- a place to which such a step leads
pub record IsNext (ts : List Tree) (steps : List Step) (ids : List ℕ) (step : Step) (next : ℕ) : Type 0 where
  pub place : ℕ
  pub is : IsPlace ts steps ids place step
  pub leads : Contains (places_after place step.effect) next
