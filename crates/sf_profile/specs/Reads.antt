-- What a JSON tree says as a profile, or its first refusal: in the profile's head, and then rule after rule.
use Rattle.std.specs.Prelude.{ℕ, ℤ, pos, ◌+◌, ◌-◌, ◌^◌, Bool, true, false, not, ◌&&◌, ◌||◌, nat_lt, if◌then◌else◌, List, [], ◌∷◌, ◌++◌, map, fold, codes, Option, Some, None, is_some, ok_or, option_and_then, option_map, unwrap_or, Result, Ok, Err}
use Rattle.sf_profile.specs.Common.{list_any, list_all, flat_map, bytes_eq, Data, array, as_array, is_call_name, Fault, Flaw, Version, CallSet, Comparing, Comparison, Response, Settings}
use Rattle.sf_profile.specs.declared.fault.Fault.TheVariants as faults
use Rattle.sf_profile.specs.declared.fault.Flaw.TheVariants as flaws
use Rattle.sf_profile.specs.Data.{ComparisonsData, ConditionData, ProfileData, ProfileRuleData}
use Rattle.sf_profile.specs.Trees.{at, items_in, listed, absent_or, is_text, is_list_of, text_in, text_at, texts_of, texts_or_none, whole_where, whole_or, maybe_whole, is_object_of}
use Rattle.sf_profile.specs.Profiles.{profile_keys, map_keys, rule_keys, argument_keys, condition_keys, set_named, name_of_set, arch_name_of_set, response_named, has_data, comparing_named, up_to, up_to_or, argument_numbered, version_of, is_at_least}
use Rattle.sf_profile.specs.Errors.{is_error_name}
use Rattle.sf_profile.specs.Settings.{has_calls, has_cap, is_same_set}
use Rattle.sf_profile.specs.Limits.{has_few_parts, size_of_rule}
use Rattle.sf_profile.specs.Known.{may_have_names}

-- ---- flaws

-- of two flaws the first one counts, unless the other's kind comes before: keys, then words, then ranges
abbrev pub flaw_place : Flaw → ℕ
flaw_place flaws.Key = 0
flaw_place flaws.Actions = 1
flaw_place flaws.Range = 2

abbrev pub first_flaw : Flaw → Flaw → Flaw
first_flaw flaw other = if nat_lt (flaw_place other) (flaw_place flaw) then other else flaw

-- why the head is refused for a flaw, and a rule by its number
abbrev pub head_fault : Flaw → Fault
head_fault flaws.Key = faults.Key
head_fault flaws.Actions = faults.Actions
head_fault flaws.Range = faults.Range

abbrev pub rule_fault : ℕ → Flaw → Fault
rule_fault n flaws.Key = faults.RuleKey n
rule_fault n flaws.Actions = faults.RuleActions n
rule_fault n flaws.Range = faults.RuleRange n

-- ---- comparisons

-- an index is at most 5, and values have 64 bits without a sign
abbrev pub comparison_where : Option Comparing → Option ℕ → Option ℕ → Option ℕ → Result Comparison Flaw
comparison_where None index value value_two = Err flaws.Actions
comparison_where (Some comparing) (Some index) (Some value) (Some value_two) = Ok (record {
  argument = argument_numbered index;
  comparing = comparing;
  value = value;
  value_two = value_two;
})
comparison_where (Some comparing) _ _ _ = Err flaws.Range

abbrev pub comparison_given : Option ℤ → Option ℤ → Option ℤ → Option (List ℕ) → Result Comparison Flaw
comparison_given (Some index) (Some value) (Some value_two) (Some op) =
    comparison_where (comparing_named op) (up_to 5 index) (up_to (2 ^ 64 - 1) value) (up_to (2 ^ 64 - 1) value_two)
comparison_given _ _ _ _ = Err flaws.Key

abbrev pub read_comparison : Data → Result Comparison Flaw
read_comparison d =
    if is_object_of argument_keys d
    then comparison_given (whole_where (at (codes "index") d)) (whole_where (at (codes "value") d))
    (whole_or (pos 0) (at (codes "valueTwo") d)) (text_at (codes "op") d)
    else Err flaws.Key

-- what was read
abbrev pub read_of : Result Comparison Flaw → List Comparison
read_of (Ok c) = c ∷ []
read_of (Err flaw) = []

abbrev pub with_flaw : Option Flaw → Result Comparison Flaw → Option Flaw
with_flaw flaw (Ok c) = flaw
with_flaw None (Err other) = Some other
with_flaw (Some flaw) (Err other) = Some (first_flaw flaw other)

-- the comparisons of values, and the flaw that counts
abbrev pub read_comparisons : List Data → ComparisonsData
read_comparisons ds = record {
  list = flat_map read_of (map read_comparison ds);
  flaw = fold with_flaw None (map read_comparison ds);
}

-- the same of an array
abbrev pub read_array : Data → ComparisonsData
read_array (array ds) = read_comparisons (items_in ds)
read_array _ = record { list = []; flaw = Some flaws.Key }

abbrev pub read_arguments : Option Data → ComparisonsData
read_arguments None = record { list = []; flaw = None }
read_arguments (Some d) = read_array d

-- ---- actions

-- an error's name stands only beside the error's number
abbrev pub has_right_error_name : List ℕ → List ℕ → Data → Bool
has_right_error_name name number d =
    absent_or (λ given. is_error_name (text_in given) (option_and_then (up_to 65535) (whole_where (at number d))))
    (at name d)

-- a number stands only beside an action that has data; an unknown action is refused elsewhere
abbrev pub has_data_or_none : Option Response → Bool
has_data_or_none None = true
has_data_or_none (Some response) = has_data response

abbrev pub takes_number : List ℕ → Option ℤ → Bool
takes_number name None = true
takes_number name (Some z) = has_data_or_none (response_named name 0)

-- the response of an action's name with a number of 16 bits
abbrev pub response_where : List ℕ → Option ℕ → Result Response Flaw
response_where name (Some number) = ok_or (response_named name number) flaws.Actions
response_where name None = if is_some (response_named name 0) then Err flaws.Range else Err flaws.Actions

-- the same where the values are of their kinds, and may stand beside one another; a number that isn't given is 1
abbrev pub response_given : Option (List ℕ) → Bool → Option (Option ℤ) → Option (Result Response Flaw)
response_given (Some name) true (Some number) =
    if takes_number name number then Some (response_where name (up_to_or 1 65535 number)) else None
response_given _ _ _ = None

-- the response at the keys of an action, its number and its error's name
abbrev pub read_response : List ℕ → List ℕ → List ℕ → Data → Option (Result Response Flaw)
read_response action number name d =
    response_given (text_at action d) (has_right_error_name name number d) (maybe_whole (at number d))

-- ---- conditions

-- the kernel is the one of a version, or newer; a rule may ask for one where the kernel's is known
abbrev pub read_version : Option Version → Data → Option (Option Bool)
read_version None d = None
read_version (Some kernel) d = option_map (λ least. Some (is_at_least kernel least)) (version_of (text_in d))

abbrev pub read_kernel : Settings → Option Data → Option (Option Bool)
read_kernel s None = Some None
read_kernel s (Some d) = read_version s.kernel d

abbrev pub condition_given : Option (List (List ℕ)) → Option (List (List ℕ)) → Option (Option Bool)
    → Option ConditionData
condition_given (Some arches) (Some caps) (Some fits) =
    Some (record { arches = arches; caps = caps; fits_kernel = fits })
condition_given _ _ _ = None

abbrev pub read_condition : Settings → Data → Option ConditionData
read_condition s d =
    if is_object_of condition_keys d
    then condition_given (texts_or_none (at (codes "arches") d)) (texts_or_none (at (codes "caps") d))
    (read_kernel s (at (codes "minKernel") d))
    else None

-- the machine is one of those that a condition names
abbrev pub names_machine : Settings → ConditionData → Bool
names_machine s c = list_any (bytes_eq (arch_name_of_set s.machine)) c.arches

-- there are no texts
abbrev pub is_none : List (List ℕ) → Bool
is_none [] = true
is_none (t ∷ ts) = false

-- what a rule includes: the machine is named, where any is; the container has all capabilities; the kernel is new
-- enough
abbrev pub includes : Settings → ConditionData → Bool
includes s c = (is_none c.arches || names_machine s c) && list_all (has_cap s) c.caps && unwrap_or c.fits_kernel true

-- what a rule excludes: the machine is named, or the container has one of the capabilities, or the kernel is new enough
abbrev pub excludes : Settings → ConditionData → Bool
excludes s c = names_machine s c || list_any (has_cap s) c.caps || unwrap_or c.fits_kernel false

abbrev pub is_included : Settings → Option Data → Option Bool
is_included s None = Some true
is_included s (Some d) = option_map (includes s) (read_condition s d)

abbrev pub is_excluded : Settings → Option Data → Option Bool
is_excluded s None = Some false
is_excluded s (Some d) = option_map (excludes s) (read_condition s d)

-- ---- rules

-- either names, or one name
abbrev pub one_text : Data → Option (List (List ℕ))
one_text d = if is_text d then Some (text_in d ∷ []) else None

abbrev pub read_names : Option Data → Option Data → Option (List (List ℕ))
read_names (Some names) None = texts_of names
read_names None (Some name) = one_text name
read_names _ _ = None

-- the rule of these parts, whose number is n
abbrev pub rule_where : ℕ → List (List ℕ) → Bool → Result Response Flaw → List Comparison → Option Flaw
    → Result ProfileRuleData Fault
rule_where n names applies (Ok response) cs None =
    Ok (record { names = names; applies = applies; comparisons = cs; response = response })
rule_where n names applies (Ok response) cs (Some flaw) = Err (rule_fault n flaw)
rule_where n names applies (Err flaw) cs None = Err (rule_fault n flaw)
rule_where n names applies (Err flaw) cs (Some other) = Err (rule_fault n (first_flaw flaw other))

-- the same, where there are few parts, and the names are right
abbrev pub rule_named : Settings → ℕ → Bool → List (List ℕ) → Bool → Result Response Flaw → ComparisonsData
    → Result ProfileRuleData Fault
rule_named s n few names applies response cs =
    if not few then Err (faults.RuleCount n)
    else if not (list_all is_call_name names) then Err (faults.RuleName n)
    else if not (may_have_names s applies names) then Err (faults.RuleUnknown n)
    else rule_where n names applies response cs.list cs.flaw

-- comparisons of which a key is wrong
abbrev pub has_wrong_key : Option Flaw → Bool
has_wrong_key (Some flaws.Key) = true
has_wrong_key _ = false

-- the same, where each value is of its kind
abbrev pub rule_given : Settings → ℕ → Bool → Option (List (List ℕ)) → Option (Result Response Flaw) → Bool
    → Option Bool → Option Bool → ComparisonsData → Result ProfileRuleData Fault
rule_given s n few (Some names) (Some response) false (Some included) (Some excluded) cs =
    rule_named s n few names (included && not excluded) response cs
rule_given s n few _ _ _ _ _ cs = Err (faults.RuleKey n)

-- the rule of these comparisons with the number n, where `left` rules and names may still come
abbrev pub rule_of : Settings → ℕ → ℕ → Data → ComparisonsData → Result ProfileRuleData Fault
rule_of s n left d cs =
    rule_given s n (has_few_parts left d) (read_names (at (codes "names") d) (at (codes "name") d))
    (read_response (codes "action") (codes "errnoRet") (codes "errno") d) (has_wrong_key cs.flaw)
    (is_included s (at (codes "includes") d)) (is_excluded s (at (codes "excludes") d)) cs

abbrev pub read_rule : Settings → ℕ → ℕ → Data → Result ProfileRuleData Fault
read_rule s n left d =
    if is_object_of rule_keys d then rule_of s n left d (read_arguments (at (codes "args") d))
    else Err (faults.RuleKey n)

-- what comes after a part that was read
abbrev pub and_then : {A B : Type 0} → Result A Fault → (A → Result B Fault) → Result B Fault
and_then (Ok a) next = next a
and_then (Err fault) next = Err fault

-- rules behind others, the first of which has the number n, where `left` rules and names may still come
abbrev pub read_rules : Settings → ℕ → ℕ → List ProfileRuleData → List Data → Result (List ProfileRuleData) Fault
read_rules s n left rules [] = Ok rules
read_rules s n left rules (d ∷ ds) =
    and_then (read_rule s n left d) (λ rule. read_rules s (n + 1) (left - size_of_rule d) (rules ++ rule ∷ []) ds)

-- ---- the head

-- an entry of `archMap`
abbrev pub is_map_item : Data → Bool
is_map_item d =
    is_object_of map_keys d && is_some (text_at (codes "architecture") d)
    && is_some (texts_or_none (at (codes "subArchitectures") d))

abbrev pub is_array : Data → Bool
is_array d = is_some (as_array d)

-- the sets of calls stand at one of two keys
abbrev pub has_sets : Data → Bool
has_sets d =
    (not (is_some (at (codes "archMap") d)) || not (is_some (at (codes "architectures") d)))
    && is_some (texts_or_none (at (codes "architectures") d))

-- the values of the head are of their kinds
abbrev pub has_head : Data → Bool
has_head d =
    absent_or is_array (at (codes "syscalls") d) && absent_or (is_list_of is_map_item) (at (codes "archMap") d)
    && has_sets d

-- the entry of `archMap` is the machine's
abbrev pub is_own : Settings → Option (List ℕ) → Bool
is_own s None = false
is_own s (Some name) = bytes_eq name (name_of_set s.machine)

-- the names of sets that an entry of `archMap` has, if it is the machine's
abbrev pub item_sets : Settings → Data → List (List ℕ)
item_sets s d =
    if is_own s (text_at (codes "architecture") d) then map text_in (listed (at (codes "subArchitectures") d)) else []

-- the names of sets that are listed
abbrev pub set_names : Settings → Data → List (List ℕ)
set_names s d =
    map text_in (listed (at (codes "architectures") d)) ++ flat_map (item_sets s) (listed (at (codes "archMap") d))

-- a set more, if it isn't there yet
abbrev pub with_set : List CallSet → CallSet → List CallSet
with_set sets set = if list_any (is_same_set set) sets then sets else sets ++ set ∷ []

-- the same, where the set is known and its calls are given
abbrev pub with_given : Settings → List CallSet → Option CallSet → Option (List CallSet)
with_given s sets None = None
with_given s sets (Some set) = if has_calls s set then Some (with_set sets set) else None

abbrev pub with_named : Settings → Option (List CallSet) → List ℕ → Option (List CallSet)
with_named s None name = None
with_named s (Some sets) name = with_given s sets (set_named name)

-- the machine's own set, and those that are listed, each once, where the calls of all are given
abbrev pub read_sets : Settings → Data → Option (List CallSet)
read_sets s d =
    if has_calls s s.machine then fold (with_named s) (Some (s.machine ∷ [])) (set_names s d) else None

-- ---- the whole

-- the profile of these sets
abbrev pub profile_of_sets : Settings → Data → Response → Option (List CallSet) → Result ProfileData Fault
profile_of_sets s d default None = Err faults.Set
profile_of_sets s d default (Some sets) =
    and_then (read_rules s 1 8192 [] (listed (at (codes "syscalls") d)))
    (λ rules. Ok (record { sets = sets; rules = rules; default = default }))

abbrev pub profile_of_default : Settings → Data → Result Response Flaw → Result ProfileData Fault
profile_of_default s d (Ok default) = profile_of_sets s d default (read_sets s d)
profile_of_default s d (Err flaw) = Err (head_fault flaw)

abbrev pub profile_given : Settings → Data → Option (Result Response Flaw) → Result ProfileData Fault
profile_given s d None = Err faults.Key
profile_given s d (Some default) = if has_head d then profile_of_default s d default else Err faults.Key

-- the profile of a tree, or why it is refused: of its rules and their names together, at most 8,192 may come
abbrev pub read_profile : Settings → Data → Result ProfileData Fault
read_profile s d =
    if is_object_of profile_keys d
    then profile_given s d
    (read_response (codes "defaultAction") (codes "defaultErrnoRet") (codes "defaultErrno") d)
    else Err faults.Key
