-- A profile as it is read, and with the numbers of its calls.
use Rattle.std.specs.Prelude.{ℕ, Bool, List, Option}
use Rattle.sf_profile.specs.Common.{CallSet, Call, Comparison, Response, Reading, Flaw}

-- ---- as it is read

-- what a rule includes or excludes: machines, capabilities, and, where a version of the kernel is asked for, whether
-- the kernel is that one, or newer
pub record ConditionData : Type 0 where
  pub arches : List (List ℕ)
  pub caps : List (List ℕ)
  pub fits_kernel : Option Bool

-- what a rule asks of the arguments; where that isn't known, what is wrong
pub record ComparisonsData : Type 0 where
  pub list : List Comparison
  pub flaw : Option Flaw

-- a rule: the names of its calls, whether it applies to the machine, the container and the kernel, what it asks of the
-- arguments, and what becomes of such a call
pub record ProfileRuleData : Type 0 where
  pub names : List (List ℕ)
  pub applies : Bool
  pub comparisons : List Comparison
  pub response : Response

-- the sets of calls, the rules in order, and what becomes of a call that no rule speaks of
pub record ProfileData : Type 0 where
  pub sets : List CallSet
  pub rules : List ProfileRuleData
  pub default : Response

-- ---- with the numbers of its calls

-- a rule: calls of one set, what it asks of their arguments, and what becomes of such a call
pub record RuleData : Type 0 where
  pub calls : List Call
  pub comparisons : List Comparison
  pub response : Response

-- the rules of a set of calls, in the profile's order
pub record SetRulesData : Type 0 where
  pub set : CallSet
  pub rules : List RuleData

-- the sets of calls, what becomes of a call that no rule speaks of, which of several rules counts, and whether calls
-- that are newer than the profile fail with ENOSYS
pub record PlanData : Type 0 where
  pub parts : List SetRulesData
  pub default : Response
  pub reading : Reading
  pub newer : Bool
