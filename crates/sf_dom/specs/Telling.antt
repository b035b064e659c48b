-- When what is known leaves the result of a test against a number open, and when the rules force it.
use Rattle.std.specs.Prelude.{◌≡◌, ℕ, ◌≤◌, List, Bool, true, false, not, Option, IfSome, bit_and}
use Rattle.sf_dom.specs.Common.{Test, Equal, AnyBit, node_at, Node, Known}
use Rattle.sf_dom.specs.Known.{Has, IsNarrower, AreBitsOf}
use Rattle.sf_dom.specs.Facts.{known_at, excluded_of}
use Rattle.sf_dom.specs.Propagation.{TestGives}
use Rattle.sf_dom.specs.Rules.{assumed, met, number_known, IsClosedAt, HasNone}

-- a test against a number has this result for some number between the ends of an interval
abbrev pub SomeBetweenGives : Known → Test → ℕ → Bool → Type 0
SomeBetweenGives k test number sense = (x : ℕ) × (k.low ≤ x) × (x ≤ k.high) × TestGives test x number sense

-- What is known of a word leaves the result of a test against a number open. For a common bit the known bits do: none
-- of the number's bits is known to be 1, and not all are known to be 0. For any other test the interval does: some
-- number between its ends passes, and some number between them fails.
abbrev pub IsOpen : Test → Known → ℕ → Type 0
IsOpen AnyBit k number = (bit_and k.ones number ≡ 0) × ¬ AreBitsOf number k.zeros
IsOpen test k number = SomeBetweenGives k test number true × SomeBetweenGives k test number false

-- By the rules a test against a number has this result: no knowledge of this kind keeps both what is known of the word
-- and what the other result says of it, and this result says nothing new of the word or of the number.
pub record IsForcedBy (kind : Known → Type 0) (k : Known) (test : Test) (number : ℕ) (sense : Bool) : Type 0 where
  pub other : HasNone kind (met k (assumed test (not sense) k (number_known number)).node)
  pub this : IsNarrower (assumed test sense k (number_known number)).node k
  pub that : IsNarrower (assumed test sense k (number_known number)).other (number_known number)

-- What is known of a node leaves the result of a test against a number open: its interval and bits do, and where the
-- test is for equality, the number isn't excluded for the node.
pub record IsOpenAt (ks : List Known) (ex : List ℕ) (ns : List Node) (at : ℕ) (test : Test)
    (number : ℕ) : Type 0 where
  pub known : IsOpen test (known_at ks at) number
  pub kept : test ≡ Equal → ¬ Has (excluded_of ex (node_at ns at)) number

-- The result that is told of a test of the node at a place, if one is, is forced by the rules. This is promised where
-- nothing more follows from what is known of the node by itself.
abbrev pub IsForcing : List Known → List ℕ → ℕ → Test → ℕ → Option Bool → Type 0
IsForcing ks ex at test number told =
    IsClosedAt ex at (known_at ks at)
    → IfSome told (λ b. IsForcedBy (IsClosedAt ex at) (known_at ks at) test number b)
