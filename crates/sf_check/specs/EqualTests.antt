-- Tests that ask whether A equals a number, how programs chain them, and the tables that find the test for a number.
-- Here they are called equal tests.
use Rattle.std.specs.Prelude.{◌≡◌, ◌≢◌, ℕ, zero, suc, ◌+◌, ◌*◌, ◌<◌, ◌≤◌, List, length, All, Contains, slice_index}
use Rattle.sf_check.specs.Common.{IsNonDecreasing, Equal, Insn, Branch, Constant}
use Rattle.sf_check.specs.Programs.{IsAt}

-- The instruction asks whether A equals this number. Where A is another number, it skips this many instructions.
pub record AsksFor (i : Insn) (number skips : ℕ) : Type 0 where
  pub on_true : ℕ
  pub is : i ≡ Branch Equal (Constant number) on_true skips

-- The instruction at `at` asks whether A equals `number`, and leads to `next` where A is another number.
pub record IsEqualTest (code : List Insn) (at number next : ℕ) : Type 0 where
  pub insn : Insn
  pub here : IsAt code at insn
  pub skips : ℕ
  pub asks : AsksFor insn number skips
  pub leads : next ≡ at + 1 + skips

-- This many equal tests lead from `place` to `behind`: each stands where the one before it leads when it fails. Each
-- asks for a number other than this one; where A is this number, all of them fail.
abbrev pub AreSkipped : List Insn → ℕ → ℕ → ℕ → ℕ → Type 0
AreSkipped code number zero place behind = behind ≡ place
AreSkipped code number (suc n) place behind =
    (k : ℕ) × (next : ℕ) × (k ≢ number) × IsEqualTest code place k next × AreSkipped code number n next behind

-- `count` equal tests, each for a number other than this one, lead from `place` to `behind`. That is a place of the
-- program, and no equal test for another number stands there.
pub record IsBehindOthers (code : List Insn) (place number count behind : ℕ) : Type 0 where
  pub skipped : AreSkipped code number count place behind
  pub inside : behind < length code
  pub ends : (k next : ℕ) → IsEqualTest code behind k next → k ≡ number

-- ---- the tables

-- At p, the earlier of two places p and q of a chain, stands an equal test. It leads to a place of the chain that is
-- one step further, and not past q.
pub record LeadsOn (code : List Insn) (chains steps : List ℕ) (p q : ℕ) : Type 0 where
  pub number : ℕ
  pub next : ℕ
  pub test : IsEqualTest code p number next
  pub near : next ≤ q
  pub same : slice_index chains next ≡ slice_index chains p
  pub step : slice_index steps next ≡ slice_index steps p + 1

-- Place p is in a chain. The number of the chain, and the step that p is in it, are at most p. Under that number
-- `lasts` has the last place of the chain, which is in the program and not before p.
pub record IsInChain (code : List Insn) (chains steps lasts : List ℕ) (p : ℕ) : Type 0 where
  pub begins : slice_index chains p ≤ p
  pub few : slice_index steps p ≤ p
  pub before_last : p ≤ slice_index lasts (slice_index chains p)
  pub inside : slice_index lasts (slice_index chains p) < length code
  pub same : slice_index chains (slice_index lasts (slice_index chains p)) ≡ slice_index chains p

-- `chains` has for each place of a program the number of its chain, `steps` numbers the places along each chain, and
-- `lasts` has the last place of each chain. From each place of a chain but the last one, a test leads to the next.
pub record AreChains (code : List Insn) (chains steps lasts : List ℕ) : Type 0 where
  pub each_chain : length chains ≡ length code
  pub each_step : length steps ≡ length code
  pub each_last : length lasts ≡ length code
  pub each_place : (p : ℕ) → p < length code → IsInChain code chains steps lasts p
  pub on : (p q : ℕ) → p < q → q < length code → slice_index chains p ≡ slice_index chains q
      → LeadsOn code chains steps p q

-- an equal test as one number: keys ascend by chains, in a chain by the numbers that are asked for, and for one number
-- by places
abbrev pub test_key : ℕ → ℕ → ℕ → ℕ
test_key chain number at = 4096 * (4294967296 * chain + number) + at

-- The key is that of an equal test of the program.
pub record IsTestKey (code : List Insn) (chains : List ℕ) (key : ℕ) : Type 0 where
  pub number : ℕ
  pub at : ℕ
  pub next : ℕ
  pub test : IsEqualTest code at number next
  pub small : number < 4294967296
  pub is : key ≡ test_key (slice_index chains at) number at

-- The keys of all equal tests of a program, ascending.
pub record AreTestKeys (code : List Insn) (chains keys : List ℕ) : Type 0 where
  pub ascending : IsNonDecreasing keys
  pub are : All (IsTestKey code chains) keys
  pub of : (at k next : ℕ) → IsEqualTest code at k next → Contains keys (test_key (slice_index chains at) k at)

-- the equal tests of a program lead to places of the program
abbrev pub LeadInside : List Insn → Type 0
LeadInside code = (at k next : ℕ) → IsEqualTest code at k next → next < length code

-- These are the tables of a program. It has at most 4096 instructions, and its equal tests lead to places in it.
pub record AreEqualTests (code : List Insn) (keys chains steps lasts : List ℕ) : Type 0 where
  pub keys_are : AreTestKeys code chains keys
  pub chains_are : AreChains code chains steps lasts
  pub short : length code ≤ 4096
  pub inside : LeadInside code
