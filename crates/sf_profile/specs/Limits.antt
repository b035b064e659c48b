-- How large a profile may be.
use Rattle.std.specs.Prelude.{ℕ, ◌+◌, ◌-◌, Bool, ◌&&◌, nat_le, nat_lt, if◌then◌else◌, List, [], ◌∷◌, length, codes, Option, Some, None}
use Rattle.sf_profile.specs.Common.{Data}
use Rattle.sf_profile.specs.Data.{RuleData}
use Rattle.sf_profile.specs.Trees.{at, listed}

-- a rule and its names, counted together
abbrev pub size_of_rule : Data → ℕ
size_of_rule d = length (listed (at (codes "names") d)) + 1

-- a rule has at most 1,024 names and 64 comparisons, and is no more, with its names, than may still come
abbrev pub has_few_parts : ℕ → Data → Bool
has_few_parts left d =
    nat_le (length (listed (at (codes "names") d))) 1024 && nat_le (length (listed (at (codes "args") d))) 64
    && nat_le (size_of_rule d) left

-- How many calls are left of so many when those of rules are taken away; none where the rules have more. Nothing has
-- to be believed of this: a set with more than 2,048 calls is proved to be too long.
abbrev pub calls_left : ℕ → List RuleData → Option ℕ
calls_left most [] = Some most
calls_left most (rule ∷ rules) =
    if nat_lt most (length rule.calls) then None else calls_left (most - length rule.calls) rules
