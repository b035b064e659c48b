-- What the rules of facts promise, said of the rules alone.
use Rattle.std.specs.Prelude.{◌≡◌, ◌≢◌, ℕ, ◌<◌, ◌≤◌, ◌^◌, bit_and, List, [], ◌∷◌, ◌++◌, length, Bool, not, Some, All}
use Rattle.sf_dom.specs.Common.{IsInput, Input, BinOp, Add, Sub, Or, And, Xor, Test, apply, negation_of, Known, IsPool, IsCondBelow, Extends, node_at, value_of, Cond, Node, Const, Bin, Neg, NodeId}
use Rattle.sf_dom.specs.Known.{Admits, Leaves, IsDecided}
use Rattle.sf_dom.specs.Facts.{FactsView, Agrees, Covers, NoInput, NoneAgrees, HasIn, LiesIn, HasMasked, ConfinesWord, TakesIn, known_at}
use Rattle.sf_dom.specs.Learning.{StartsBy, LearnsBy, CantLearn, GrowsBy, CantGrow, TakesInBy, CantTakeInBy, AreBuiltBy, CantBeBuilt}
use Rattle.sf_dom.specs.Passes.{IsPass, IsAtRest}
use Rattle.sf_dom.specs.Backward.{IsPropagatedBack}
use Rattle.sf_dom.specs.GoingBack.{GoingBackGives}
use Rattle.sf_dom.specs.Propagation.{TestGives, Meets, AllMet, Learns, AreFactsOf}
use Rattle.sf_dom.specs.Telling.{IsForcedBy}
use Rattle.sf_dom.specs.Rules.{IsClosedAt, between, masked, number_known, forward_known, forward_negated, IsClosed, IsClosedWord, IsWidest, HasNone}

-- where what is known of the operands admits their numbers, what is known of the result admits the number that the
-- operation makes of these
pub record IsForwardSound : Type 0 where
  pub operation : (op : BinOp) (a b : Known) (x y : ℕ) → a.high < 2 ^ 32 → b.high < 2 ^ 32 → Admits a x → Admits b y
      → Admits (forward_known op a b) (apply op x y)
  pub negation : (a : Known) (x : ℕ) → a.high < 2 ^ 32 → Admits a x → Admits (forward_negated a) (negation_of x)

-- the operations whose result is decided where both operands are
abbrev pub KeepsDecided : BinOp → Type 0
KeepsDecided Add = Unit {0}
KeepsDecided Sub = Unit {0}
KeepsDecided Or = Unit {0}
KeepsDecided And = Unit {0}
KeepsDecided Xor = Unit {0}
KeepsDecided _ = ⊥

-- a node is one of these operations or a negation, and its operands are decided
abbrev pub AreDecidedOperands : List Known → Node → Type 0
AreDecidedOperands ks (Bin op a b) = KeepsDecided op × IsDecided (known_at ks a.0) × IsDecided (known_at ks b.0)
AreDecidedOperands ks (Neg a) = IsDecided (known_at ks a.0)
AreDecidedOperands ks _ = ⊥

-- such a node of a pool is decided
abbrev pub DecidesResults : Type 0
DecidesResults = (f : FactsView) (ns : List Node) (i : ℕ) → Covers f ns → i < length ns
    → AreDecidedOperands f.known (node_at ns i) → IsDecided (known_at f.known i)

-- Reduction loses no number that was admitted, or was left for a word; where it gives nothing, there was none. It has
-- one result at most.
pub record IsReductionSound : Type 0 where
  pub some : (old new : Known) (n : ℕ) → n < 2 ^ 32 → old.zeros < 2 ^ 32 → IsWidest IsClosed old new → Admits old n
      → Admits new n
  pub none : (old : Known) (n : ℕ) → n < 2 ^ 32 → old.zeros < 2 ^ 32 → HasNone IsClosed old → ¬ Admits old n
  pub some_word : (xs : ℕ) (old new : Known) (n : ℕ) → n < 2 ^ 32 → old.zeros < 2 ^ 32
      → IsWidest (IsClosedWord xs) old new → Leaves old xs n → Leaves new xs n
  pub none_word : (xs : ℕ) (old : Known) (n : ℕ) → n < 2 ^ 32 → old.zeros < 2 ^ 32 → HasNone (IsClosedWord xs) old
      → ¬ Leaves old xs n
  pub one : (old a b : Known) → IsWidest IsClosed old a → IsWidest IsClosed old b → a ≡ b
  pub one_word : (xs : ℕ) (old a b : Known) → IsWidest (IsClosedWord xs) old a → IsWidest (IsClosedWord xs) old b
      → a ≡ b

-- A result that the rules force is the one that the test has on every input that agrees with the facts. Where all that
-- the known bits of a node say of the nodes that it comes of is known of these already, going back from it changes
-- nothing.
pub record IsTellingSound : Type 0 where
  pub forced : (f : FactsView) (ns : List Node) (i : ℕ) (test : Test) (number : ℕ) (sense : Bool) → Covers f ns
      → i < length ns → number < 2 ^ 32 → IsForcedBy (IsClosedAt f.excluded i) (known_at f.known i) test number sense
      → (d : Input) → IsInput d → Agrees f ns d → TestGives test (value_of ns d i) number sense
  pub back : (f : FactsView) (ns : List Node) (i : ℕ) → Covers f ns → i < length ns
      → ((n : ℕ) → IsPropagatedBack n f.known ns i) → GoingBackGives f.known f.excluded ns i (Some f.known)

-- What the calls on facts promise of inputs follows from the rules. Facts of conditions, facts that learn a condition
-- or more of a word, and facts that take in newer nodes lose no input that meets these conditions or has such a number
-- in the word. Where facts can't do so by the rules, there is no such input.
pub record IsLearningSound : Type 0 where
  pub built : (f : FactsView) (ns : List Node) (conds : List Cond) → Covers f ns → All (IsCondBelow (length ns)) conds
      → AreBuiltBy f ns conds → AreFactsOf f ns conds
  pub cant_build : (ns : List Node) (conds : List Cond) → IsPool ns → All (IsCondBelow (length ns)) conds
      → CantBeBuilt ns conds → (d : Input) → IsInput d → ¬ AllMet ns conds d
  pub learns : (f new : FactsView) (ns : List Node) (cond : Cond) → Covers f ns → IsCondBelow (length ns) cond
      → Covers new ns → LearnsBy f new ns cond → Learns f new ns cond
  pub cant_learn : (f : FactsView) (ns : List Node) (cond : Cond) → Covers f ns → IsCondBelow (length ns) cond
      → CantLearn f ns cond → NoInput f ns (Meets ns cond)
  pub confines : (f new : FactsView) (ns : List Node) (w low high : ℕ) → Covers f ns → w < 16 → Covers new ns
      → TakesInBy f new ns w (between low high) → ConfinesWord f new ns w (LiesIn low high)
  pub cant_confine : (f : FactsView) (ns : List Node) (w low high : ℕ) → Covers f ns → w < 16
      → CantTakeInBy f ns w (between low high) → NoInput f ns (HasIn w (LiesIn low high))
  pub confines_bits : (f new : FactsView) (ns : List Node) (w mask value : ℕ) → Covers f ns → w < 16 → mask < 2 ^ 32
      → bit_and value mask ≡ value → Covers new ns → TakesInBy f new ns w (masked mask value)
      → ConfinesWord f new ns w (HasMasked mask value)
  pub cant_confine_bits : (f : FactsView) (ns : List Node) (w mask value : ℕ) → Covers f ns → w < 16 → mask < 2 ^ 32
      → bit_and value mask ≡ value → CantTakeInBy f ns w (masked mask value)
      → NoInput f ns (HasIn w (HasMasked mask value))
  pub grows : (f new : FactsView) (before ns : List Node) → Covers f before → Extends before ns → Covers new ns
      → GrowsBy f new ns → TakesIn f new before ns
  pub cant_grow : (f : FactsView) (before ns : List Node) → Covers f before → Extends before ns → IsPool ns
      → CantGrow f ns → NoneAgrees f before

-- The rules have one result. What is known at first is one thing. What facts learn of a condition is one thing, and
-- they never learn it where they can't. The same goes for taking in newer nodes, and for learning more of a word.
pub record HaveOneResult : Type 0 where
  pub started : (f g : FactsView) (ns : List Node) → IsPool ns → StartsBy f ns → StartsBy g ns → f ≡ g
  pub learnt : (f g h : FactsView) (ns : List Node) (cond : Cond) → IsPool ns → LearnsBy f g ns cond
      → LearnsBy f h ns cond → g ≡ h
  pub learns_not : (f g : FactsView) (ns : List Node) (cond : Cond) → IsPool ns → LearnsBy f g ns cond
      → ¬ CantLearn f ns cond
  pub grown : (f g h : FactsView) (ns : List Node) → IsPool ns → GrowsBy f g ns → GrowsBy f h ns → g ≡ h
  pub grows_not : (f g : FactsView) (ns : List Node) → IsPool ns → GrowsBy f g ns → ¬ CantGrow f ns
  pub confined : (f g h : FactsView) (ns : List Node) (w : ℕ) (more : Known) → IsPool ns → TakesInBy f g ns w more
      → TakesInBy f h ns w more → g ≡ h
  pub confines_not : (f g : FactsView) (ns : List Node) (w : ℕ) (more : Known) → IsPool ns → TakesInBy f g ns w more
      → ¬ CantTakeInBy f ns w more

-- where nothing more follows for any node before a place, a forward pass changes none of these
abbrev pub PassKeepsOlder : Type 0
PassKeepsOlder = (old new : List Known) (ex : List ℕ) (ns : List Node) (i : ℕ) → IsPool ns → i ≤ length ns
    → IsPass old new ex ns → ((k : ℕ) → k < i → IsAtRest old ex ns k)
    → (k : ℕ) → k < i → known_at new k ≡ known_at old k

-- Facts that are carried along: those at first, which learn each condition over the pool that there is by then, and
-- take in the newer nodes whenever the pool has grown.
pub data AreCarried : FactsView → List Node → List Cond → Type 0 where
  started : {f : FactsView} {ns : List Node} {conds : List Cond} → IsPool ns → StartsBy f ns → conds ≡ []
      → AreCarried f ns conds
  learnt : {f : FactsView} {ns : List Node} {conds : List Cond} (old : FactsView) (before : List Cond) (cond : Cond)
      → AreCarried old ns before → IsCondBelow (length ns) cond → LearnsBy old f ns cond
      → conds ≡ before ++ cond ∷ [] → AreCarried f ns conds
  grown : {f : FactsView} {ns : List Node} {conds : List Cond} (old : FactsView) (shorter : List Node)
      → AreCarried old shorter conds → IsPool ns → Extends shorter ns → GrowsBy old f ns → AreCarried f ns conds

-- Facts that are carried along say what those say that are built anew, over the whole pool and from all conditions.
-- Only which nodes are variables may differ.
abbrev pub CarriedAreBuilt : Type 0
CarriedAreBuilt = (f g : FactsView) (ns : List Node) (conds : List Cond) → AreCarried f ns conds → AreBuiltBy g ns conds
    → (f.known ≡ g.known) × (f.excluded ≡ g.excluded)

-- A condition's test is forced to have this result. What is known of the second node is just this number; what is known
-- of the first one forces the result; nothing more follows for any node; and what goes back from either of the two is
-- known already.
pub record IsForcedCondition (f : FactsView) (ns : List Node) (cond : Cond) (number : ℕ) (sense : Bool) : Type 0 where
  pub pool : IsPool ns
  pub count : length f.known ≡ length ns
  pub lists : length f.excluded ≡ 16
  pub rest : (i : ℕ) → i < length ns → IsAtRest f.known f.excluded ns i
  pub below : IsCondBelow (length ns) cond
  pub decided : known_at f.known cond.other.0 ≡ number_known number
  pub forced : IsForcedBy (IsClosedAt f.excluded cond.node.0) (known_at f.known cond.node.0) cond.test number sense
  pub node_back : (n : ℕ) → IsPropagatedBack n f.known ns cond.node.0
  pub other_back : (n : ℕ) → IsPropagatedBack n f.known ns cond.other.0

-- The test of a node against a number is forced to have this result: what is known of the node forces it, nothing more
-- follows for any node, and what goes back from this one is known already. The number need not have a node in the pool.
pub record IsForcedTest (f : FactsView) (ns : List Node) (node : NodeId) (test : Test) (number : ℕ)
    (sense : Bool) : Type 0 where
  pub pool : IsPool ns
  pub count : length f.known ≡ length ns
  pub lists : length f.excluded ≡ 16
  pub rest : (i : ℕ) → i < length ns → IsAtRest f.known f.excluded ns i
  pub below : node.0 < length ns
  pub fits : number < 2 ^ 32
  pub forced : IsForcedBy (IsClosedAt f.excluded node.0) (known_at f.known node.0) test number sense
  pub back : (n : ℕ) → IsPropagatedBack n f.known ns node.0

-- the condition that a test of two nodes has this result
abbrev pub condition : NodeId → Test → NodeId → Bool → Cond
condition node test other sense = record { node = node; test = test; other = other; sense = sense }

-- Where a condition's test is forced, the condition with that result can be learnt, and nothing more is known of any
-- node then; the one with the other result can't be learnt. A forced test against a number is a forced condition where
-- the number has a node, and also where the pool has none and gains one.
pub record ForcedIsLearnt : Type 0 where
  pub this : (f : FactsView) (ns : List Node) (cond : Cond) (number : ℕ)
      → IsForcedCondition f ns cond number cond.sense
      → (new : FactsView) × (new.known ≡ f.known) × LearnsBy f new ns cond
  pub other : (f : FactsView) (ns : List Node) (cond : Cond) (number : ℕ)
      → IsForcedCondition f ns cond number (not cond.sense) → CantLearn f ns cond
  pub found : (f : FactsView) (ns : List Node) (node other : NodeId) (test : Test) (number : ℕ) (sense result : Bool)
      → IsForcedTest f ns node test number result → other.0 < length ns → node_at ns other.0 ≡ Const number
      → IsForcedCondition f ns (condition node test other sense) number result
  pub added : (f : FactsView) (ns : List Node) (node other : NodeId) (test : Test) (number : ℕ) (sense result : Bool)
      → IsForcedTest f ns node test number result → ((i : ℕ) → i < length ns → node_at ns i ≢ Const number)
      → other.0 ≡ length ns → (g : FactsView) × GrowsBy f g (ns ++ Const number ∷ [])
      × IsForcedCondition g (ns ++ Const number ∷ []) (condition node test other sense) number result
