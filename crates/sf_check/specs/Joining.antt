-- What the functions that make the tables of equal tests, and look numbers up in them, promise each other.
use Rattle.std.specs.Prelude.{◌≡◌, ℕ, ◌<◌, ◌≤◌, List, length, slice_index}
use Rattle.sf_check.specs.Common.{Insn}
use Rattle.sf_check.specs.EqualTests.{IsEqualTest, AreChains}

-- The tables chain only tests below `place`: no place from there on has a later one in its chain.
pub record AreJoined (code : List Insn) (chains steps lasts : List ℕ) (place : ℕ) : Type 0 where
  pub are : AreChains code chains steps lasts
  pub front : (p q : ℕ) → p < q → q < length code → slice_index chains p ≡ slice_index chains q → p < place

-- a list of this size that has at each place the place itself
pub record AreOwn (places : List ℕ) (size : ℕ) : Type 0 where
  pub each : length places ≡ size
  pub own : (p : ℕ) → p < size → slice_index places p ≡ p

-- `at` is in the chain of `place`, at or after it. No test of the chain that stands from `place` on and before `at`
-- asks for the number.
pub record IsReached (code : List Insn) (chains : List ℕ) (place number at : ℕ) : Type 0 where
  pub from : place ≤ at
  pub inside : at < length code
  pub same : slice_index chains place ≡ slice_index chains at
  pub others : (q next : ℕ) → place ≤ q → q < at → slice_index chains q ≡ slice_index chains place
      → IsEqualTest code q number next → ⊥
