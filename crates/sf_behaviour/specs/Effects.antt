-- What instructions do, by the registers that they set.
use Rattle.std.specs.Prelude.{◌≡◌, ℕ, ◌+◌, ◌<◌, ◌==◌, ◌&&◌, Bool, true, false, List, [], ◌∷◌, Option, Some, None, slice_index, if◌then◌else◌}
use Rattle.sf_behaviour.specs.Common.{Input, Div, apply, negation_of, passes, Insn, Operand, successors, Tree, Bits, State, Progress, goes, returns, stuck, operand_of, insn_progress, Source, Constant, Held, Negation, Result, Effect, Sets, Skips, Tests, Returns}
use Rattle.sf_check.specs.declared.insn.Operand.TheVariants.{Constant as Fixed, X as OfX}
use Rattle.sf_behaviour.specs.InputBits.{input_by}
use Rattle.sf_behaviour.specs.Registers.{A, X, IsRegister, register_number, next_with}
use Rattle.sf_behaviour.specs.Knowledge.{Known, held_in}
use Rattle.sf_behaviour.specs.declared.effects.Source.TheVariants.{Word}

-- a source that there is
abbrev pub IsSource : Source → Type 0
IsSource (Word i) = i < 16
IsSource (Held r) = IsRegister r
IsSource _ = Unit {0}

-- the number of a source in a state; None where it is a scratch word that isn't set
abbrev pub source_number : Input → State → Source → Option ℕ
source_number d s (Constant k) = Some k
source_number d s (Word i) = Some (slice_index d.words i)
source_number d s (Held r) = register_number s r
source_number d s Negation = Some (negation_of s.a)
source_number d s (Result op other) = Some (apply op s.a (operand_of s other))

-- the number of an operand where these variables are true
abbrev pub operand_in : List Tree → Known → Bits → Operand → ℕ
operand_in ts k bits (Fixed n) = n
operand_in ts k bits OfX = held_in ts k bits X

-- the number of a source where these variables are true
abbrev pub source_in : List Tree → Known → Bits → Source → ℕ
source_in ts k bits (Constant n) = n
source_in ts k bits (Word i) = slice_index (input_by bits).words i
source_in ts k bits (Held r) = held_in ts k bits r
source_in ts k bits Negation = negation_of (held_in ts k bits A)
source_in ts k bits (Result op other) =
    apply op (held_in ts k bits A) (operand_in ts k bits other)

-- the source is made by an operation that divides by X: where that is 0, the program returns 0
abbrev pub divides : Source → Bool
divides (Result Div OfX) = true
divides source = false

-- on to the next place with a register set, or stuck where the source has no number
abbrev pub set_progress : State → ℕ → Option ℕ → Progress
set_progress s r (Some n) = goes [] (next_with s r n)
set_progress s r None = stuck

-- the number of the source is returned
abbrev pub return_progress : Option ℕ → Progress
return_progress (Some n) = returns [] n
return_progress None = stuck

-- what an effect does to a state
abbrev pub effect_progress : Input → State → Effect → Progress
effect_progress d s (Sets r source) =
    if divides source && (s.x == 0) then returns [] 0 else set_progress s r (source_number d s source)
effect_progress d s (Skips k) = goes [] (record s { place = s.place + 1 + k })
effect_progress d s (Tests test other on_true on_false) = goes []
    (record s { place = s.place + 1 + (if passes test s.a (operand_of s other) then on_true else on_false) })
effect_progress d s (Returns source) = return_progress (source_number d s source)

-- a step without the truth values that it meets
abbrev pub unmet : Progress → Progress
unmet (goes met s) = goes [] s
unmet (returns met n) = returns [] n
unmet stuck = stuck

-- where an instruction with this effect may lead
abbrev pub places_after : ℕ → Effect → List ℕ
places_after at (Sets r source) = (at + 1) ∷ []
places_after at (Skips k) = (at + 1 + k) ∷ []
places_after at (Tests test other on_true on_false) = (at + 1 + on_true) ∷ (at + 1 + on_false) ∷ []
places_after at (Returns source) = []

-- the register and the source of an effect are there
abbrev pub IsEffect : Effect → Type 0
IsEffect (Sets r source) = IsRegister r × IsSource source
IsEffect (Returns source) = IsSource source
IsEffect _ = Unit {0}

-- the effect of an instruction
pub record IsEffectOf (i : Insn) (e : Effect) : Type 0 where
  pub does : (d : Input) (s : State) → unmet (insn_progress d s i) ≡ effect_progress d s e
  pub leads : (at : ℕ) → successors at i ≡ places_after at e
  pub there : IsEffect e
