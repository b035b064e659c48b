-- What the calls on facts promise of the inputs that agree, and what holds between the steps of a forward pass. What is
-- known of the nodes is a list here.
use Rattle.std.specs.Prelude.{◌≡◌, ◌≢◌, ℕ, ◌<◌, ◌↔◌, ◌⊎◌, List, length, Bool, true, All}
use Rattle.sf_dom.specs.Common.{IsInput, passes, Input, Test, is_met, ArePlainNodes, Node, Word, Bin, Neg, Cond, Known}
use Rattle.sf_dom.specs.Known.{Has, IsNarrower, IsConsistent, IsDecided}
use Rattle.sf_dom.specs.Rules.{IsClosedAt}
use Rattle.sf_dom.specs.Passes.{AreClosed}
use Rattle.sf_dom.specs.Facts.{known_at, numbers_at, FactsView, Agrees, Covers, AreNarrower, KeepsInputs, KeepsOnly, SomeInput, IsPlainCondition, DecidesTest}

-- what is known of the operands is consistent, where the node has any
abbrev pub AreConsistentOperands : List Known → Node → Type 0
AreConsistentOperands ks (Bin op a b) = IsConsistent (known_at ks a.0) × IsConsistent (known_at ks b.0)
AreConsistentOperands ks (Neg a) = IsConsistent (known_at ks a.0)
AreConsistentOperands ks _ = Unit {0}

-- nothing more follows from what is known of each word by itself
abbrev pub AreClosedWords : List Known → List ℕ → Type 0
AreClosedWords ks ex = (w : ℕ) → w < 16 → IsClosedAt ex w (known_at ks w)

-- nothing known of any node is lost
abbrev pub AllNarrower : List Known → List Known → Type 0
AllNarrower old new = (i : ℕ) → i < length old → IsNarrower (known_at old i) (known_at new i)

-- More may have become known. Nothing is lost, and nothing more follows from what is known of each node by itself.
-- Where nothing more followed for the words with their excluded numbers, nothing more follows for them afterwards.
pub record IsNarrowed (old new : List Known) (ex : List ℕ) (ns : List Node) : Type 0 where
  pub closed : AreClosed new ns
  pub narrower : AllNarrower old new
  pub kept : AreClosedWords old ex → AreClosedWords new ex

-- what is known of each node is consistent
abbrev pub AreConsistent : List Known → Type 0
AreConsistent ks = (i : ℕ) → i < length ks → IsConsistent (known_at ks i)

-- the test of two numbers has this result
abbrev pub TestGives : Test → ℕ → ℕ → Bool → Type 0
TestGives test a b sense = passes test a b ≡ sense

-- one more number is excluded for a word, and the other words keep their numbers
pub record AddsNumber (old new : List ℕ) (w number : ℕ) : Type 0 where
  pub words : length new ≡ length old
  pub word : (m : ℕ) → Has (numbers_at new w) m ↔ (Has (numbers_at old w) m ⊎ (m ≡ number))
  pub others : (v : ℕ) → v ≢ w → numbers_at new v ≡ numbers_at old v

-- where a node is a word and another one is decided, the number of that one is excluded for the word; no other number
-- is added
pub record AreExcluded (old new : List ℕ) (n : Node) (other : Known) : Type 0 where
  pub words : length new ≡ length old
  pub more : (i m : ℕ) → Has (numbers_at old i) m → Has (numbers_at new i) m
  pub only : (i m : ℕ) → Has (numbers_at new i) m → Has (numbers_at old i) m
      ⊎ ((n ≡ Word i) × IsDecided other × (m ≡ other.low))
  pub added : (i : ℕ) → n ≡ Word i → IsDecided other → Has (numbers_at new i) other.low

-- a condition is met on an input
abbrev pub Meets : List Node → Cond → Input → Type 0
Meets ns cond d = is_met ns d cond ≡ true

-- every condition is met on an input
abbrev pub AllMet : List Node → List Cond → Input → Type 0
AllMet ns conds d = All (λ c. Meets ns c d) conds

-- Facts of conditions: each input that meets them all agrees. Where all are plain, no other input does; and where
-- besides the pool has only words and constants, some input meets them all.
pub record AreFactsOf (f : FactsView) (ns : List Node) (conds : List Cond) : Type 0 where
  pub covers : Covers f ns
  pub keeps : (d : Input) → IsInput d → AllMet ns conds d → Agrees f ns d
  pub only : All (IsPlainCondition ns) conds → (d : Input) → IsInput d → Agrees f ns d → AllMet ns conds d
  pub some : All (IsPlainCondition ns) conds → ArePlainNodes ns → (d : Input) × IsInput d × AllMet ns conds d

-- Facts learn a condition. Of the inputs that agreed, those that meet it agree still. Where it is plain, no others do;
-- and where besides the pool has only words and constants, one that agreed meets it. Nothing that was known is lost. If
-- both nodes were decided, their two numbers meet the condition.
pub record Learns (old new : FactsView) (ns : List Node) (cond : Cond) : Type 0 where
  pub covers : Covers new ns
  pub narrower : AreNarrower old new
  pub keeps : KeepsInputs old new ns (Meets ns cond)
  pub only : IsPlainCondition ns cond → KeepsOnly old new ns (Meets ns cond)
  pub some : IsPlainCondition ns cond → ArePlainNodes ns → SomeInput old ns (Meets ns cond)
  pub decided : DecidesTest old cond
