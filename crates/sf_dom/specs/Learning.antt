-- What facts become by the rules: at first, when they learn a condition, when they take in newer nodes, and when more
-- is known of a word.
use Rattle.std.specs.Prelude.{◌≡◌, ℕ, ◌⊎◌, List, [], ◌∷◌, ◌++◌, length, set, false, Option, Some, None}
use Rattle.sf_dom.specs.Common.{Equal, node_at, Cond, Node, Word, Known, Pair}
use Rattle.sf_dom.specs.Known.{Has, IsDecided}
use Rattle.sf_dom.specs.Reading.{known_at, numbers_at}
use Rattle.sf_dom.specs.Facts.{FactsView}
use Rattle.sf_dom.specs.Rules.{assumed, met, IsReduction, Then}
use Rattle.sf_dom.specs.Passes.{AreTakenIn, TakingInFails, PassGives, variables_after}
use Rattle.sf_dom.specs.GoingBack.{WritingGives, GoingBackGives}

-- A condition that says that its two nodes differ excludes a number for a word: where one node is the word, and the
-- other has only one number, that number.
abbrev pub Excludes : List Known → List Node → Cond → ℕ → ℕ → Type 0
Excludes ks ns cond w m = (cond.test ≡ Equal) × (cond.sense ≡ false)
    × (((node_at ns cond.node.0 ≡ Word w) × IsDecided (known_at ks cond.other.0) × (m ≡ (known_at ks cond.other.0).low))
    ⊎ ((node_at ns cond.other.0 ≡ Word w) × IsDecided (known_at ks cond.node.0)
    × (m ≡ (known_at ks cond.node.0).low)))

-- the sets of excluded numbers, with those that a condition excludes
pub record AreExcludedBy (ks : List Known) (old new : List ℕ) (ns : List Node) (cond : Cond) : Type 0 where
  pub words : length new ≡ length old
  pub kept : (w m : ℕ) → Has (numbers_at old w) m → Has (numbers_at new w) m
  pub more : (w m : ℕ) → Excludes ks ns cond w m → Has (numbers_at new w) m
  pub only : (w m : ℕ) → Has (numbers_at new w) m → Has (numbers_at old w) m ⊎ Excludes ks ns cond w m

-- what the test of a condition, with the result that the condition asks for, says of its two nodes
abbrev pub assumed_of : List Known → Cond → Pair
assumed_of ks cond = assumed cond.test cond.sense (known_at ks cond.node.0) (known_at ks cond.other.0)

-- what it gives to take in more of the node at a place: what was known of it, met with that, is reduced and written
abbrev pub MetGives : List Known → List ℕ → ℕ → Known → Option (List Known) → Type 0
MetGives ks ex i more = WritingGives ks ex i (met (known_at ks i) more)

-- this is left of the two nodes of a condition by its test; the first is written before the second is read
pub record AreLeft (ks : List Known) (ex : List ℕ) (cond : Cond) (pair : Pair) : Type 0 where
  pub node : IsReduction ex cond.node.0 (met (known_at ks cond.node.0) (assumed_of ks cond).node) pair.node
  pub other : IsReduction ex cond.other.0
      (met (known_at (set ks cond.node.0 pair.node) cond.other.0) (assumed_of ks cond).other) pair.other

-- the list, with these written for the two nodes of a condition, the second one last
abbrev pub with_pair : List Known → Cond → Pair → List Known
with_pair ks cond pair = set (set ks cond.node.0 pair.node) cond.other.0 pair.other

-- what follows from the two nodes of a condition: known bits go back from the one and from the other, and then comes a
-- forward pass
abbrev pub SpreadingGives : List Known → List ℕ → List Node → Cond → Option (List Known) → Type 0
SpreadingGives ks ex ns cond =
    Then (GoingBackGives ks ex ns cond.node.0) (λ one.
    Then (GoingBackGives one ex ns cond.other.0) (λ two s. PassGives two ex ns s))

-- What is known of all nodes where a condition is met: what its test says is taken in of its first node and of its
-- second, and then comes what follows from them. Nothing where one of these steps gives nothing.
abbrev pub ConditionGives : List Known → List ℕ → List Node → Cond → Option (List Known) → Type 0
ConditionGives ks ex ns cond =
    Then (MetGives ks ex cond.node.0 (assumed_of ks cond).node) (λ mid.
    Then (MetGives mid ex cond.other.0 (assumed_of ks cond).other) (λ both. SpreadingGives both ex ns cond))

-- facts learn a condition: the numbers that it excludes are added, and its steps give what is known then
pub record LearnsBy (old new : FactsView) (ns : List Node) (cond : Cond) : Type 0 where
  pub excluded : AreExcludedBy old.known old.excluded new.excluded ns cond
  pub known : ConditionGives old.known new.excluded ns cond (Some new.known)
  pub variables : new.variables ≡ old.variables

-- facts can't learn a condition: with the numbers that it excludes, one of its steps gives nothing
pub record CantLearn (old : FactsView) (ns : List Node) (cond : Cond) : Type 0 where
  pub sets : List ℕ
  pub excluded : AreExcludedBy old.known old.excluded sets ns cond
  pub none : ConditionGives old.known sets ns cond None

-- what is known at first: of each node what follows from its operands, and no number is excluded
pub record StartsBy (f : FactsView) (ns : List Node) : Type 0 where
  pub known : AreTakenIn [] f.known f.excluded ns
  pub variables : f.variables ≡ variables_after [] [] f.known ns
  pub words : length f.excluded ≡ 16
  pub excluded : (w : ℕ) → numbers_at f.excluded w ≡ 0

-- facts take in the newer nodes of a pool
pub record GrowsBy (old new : FactsView) (ns : List Node) : Type 0 where
  pub known : AreTakenIn old.known new.known old.excluded ns
  pub variables : new.variables ≡ variables_after old.variables old.known new.known ns
  pub excluded : new.excluded ≡ old.excluded

-- facts can't take in the newer nodes of a pool
abbrev pub CantGrow : FactsView → List Node → Type 0
CantGrow old ns = TakingInFails old.known old.excluded ns

-- What is known of all nodes where more is known of the one at a place: what was known of it is met with that and
-- reduced, and then comes a forward pass. Nothing where one of these gives nothing.
abbrev pub MoreGives : List Known → List ℕ → List Node → ℕ → Known → Option (List Known) → Type 0
MoreGives ks ex ns i more = Then (MetGives ks ex i more) (λ next s. PassGives next ex ns s)

-- facts learn that more is known of a word; no number is excluded by that
pub record TakesInBy (old new : FactsView) (ns : List Node) (w : ℕ) (more : Known) : Type 0 where
  pub known : MoreGives old.known old.excluded ns w more (Some new.known)
  pub variables : new.variables ≡ old.variables
  pub excluded : new.excluded ≡ old.excluded

-- facts can't learn this of a word: it contradicts what they know
abbrev pub CantTakeInBy : FactsView → List Node → ℕ → Known → Type 0
CantTakeInBy old ns w more = MoreGives old.known old.excluded ns w more None

-- facts learn conditions, one after the other
abbrev pub LearnAll : FactsView → FactsView → List Node → List Cond → Type 0
LearnAll old new ns [] = old ≡ new
LearnAll old new ns (cond ∷ conds) = (next : FactsView) × LearnsBy old next ns cond × LearnAll next new ns conds

-- facts of conditions: those at first, which learn the conditions in their order
abbrev pub AreBuiltBy : FactsView → List Node → List Cond → Type 0
AreBuiltBy f ns conds = (first : FactsView) × StartsBy first ns × LearnAll first f ns conds

-- there are no facts of conditions: one of them can't be learnt after those before it
pub record CantBeBuilt (ns : List Node) (conds : List Cond) : Type 0 where
  pub earlier : List Cond
  pub cond : Cond
  pub later : List Cond
  pub all : conds ≡ earlier ++ cond ∷ later
  pub before : FactsView
  pub built : AreBuiltBy before ns earlier
  pub none : CantLearn before ns cond
