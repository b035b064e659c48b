-- What the rules of a profile are, in each of its sets of calls.
use Rattle.std.specs.Prelude.{ℕ, ◌+◌, ◌*◌, ◌/◌, ◌%◌, Bool, true, false, ◌&&◌, ◌||◌, ◌==◌, nat_lt, if◌then◌else◌, List, [], ◌∷◌, ◌++◌, length, map, codes, Option, Some, None}
use Rattle.sf_profile.specs.Common.{list_any, flat_map, bytes_eq, CallSet, I386, Comparison, Response, Call, Settings}
use Rattle.sf_profile.specs.Data.{ProfileRuleData, ProfileData, RuleData, SetRulesData, PlanData}
use Rattle.sf_profile.specs.Meaning.{word_of}
use Rattle.sf_profile.specs.Settings.{is_same_set, number_of}

-- ---- what a rule asks

-- two comparisons of one argument
abbrev pub is_of_same : Comparison → Comparison → Bool
is_of_same a b = word_of a.argument == word_of b.argument

-- some argument is compared twice
abbrev pub compares_twice : List Comparison → Bool
compares_twice [] = false
compares_twice (c ∷ cs) = list_any (is_of_same c) cs || compares_twice cs

-- The comparisons of a rule, all of which have to hold. Where one argument is compared twice, as it is where there are
-- more than six of them, it is enough that one holds: that is one rule for each.
abbrev pub alternatives : List Comparison → List (List Comparison)
alternatives cs = if nat_lt 6 (length cs) || compares_twice cs then map (λ c. c ∷ []) cs else cs ∷ []

-- ---- which calls a rule is about

-- the calls that i386 has behind `socketcall`, by their numbers there from 1
abbrev pub socket_calls : List (List ℕ)
socket_calls =
    codes "socket" ∷ codes "bind" ∷ codes "connect" ∷ codes "listen" ∷ codes "accept" ∷ codes "getsockname"
    ∷ codes "getpeername" ∷ codes "socketpair" ∷ codes "send" ∷ codes "recv" ∷ codes "sendto" ∷ codes "recvfrom"
    ∷ codes "shutdown" ∷ codes "setsockopt" ∷ codes "getsockopt" ∷ codes "sendmsg" ∷ codes "recvmsg"
    ∷ codes "accept4" ∷ codes "recvmmsg" ∷ codes "sendmmsg" ∷ []

-- the calls that i386 has behind `ipc`: four with numbers from 1, four from 11 and four from 21
abbrev pub ipc_calls : List (List ℕ)
ipc_calls =
    codes "semop" ∷ codes "semget" ∷ codes "semctl" ∷ codes "semtimedop"
    ∷ codes "msgsnd" ∷ codes "msgrcv" ∷ codes "msgget" ∷ codes "msgctl"
    ∷ codes "shmat" ∷ codes "shmdt" ∷ codes "shmget" ∷ codes "shmctl" ∷ []

-- the place of a name among some, the first of which has this place; none where it isn't among them
abbrev pub place_from : ℕ → List ℕ → List (List ℕ) → Option ℕ
place_from n name [] = None
place_from n name (other ∷ others) = if bytes_eq name other then Some n else place_from (n + 1) name others

-- a call with this number, where there is one
abbrev pub direct_call : Option ℕ → List Call
direct_call None = []
direct_call (Some number) = record { number = number; operation = None } ∷ []

-- a call through `socketcall`, 102, or `ipc`, 117, where there is one
abbrev pub socket_call : Option ℕ → List Call
socket_call None = []
socket_call (Some place) = record { number = 102; operation = Some (place + 1) } ∷ []

abbrev pub ipc_call : Option ℕ → List Call
ipc_call None = []
ipc_call (Some place) = record { number = 117; operation = Some (place / 4 * 10 + place % 4 + 1) } ∷ []

-- the calls of a name through others: only i386 has them, and only a rule that compares nothing is about them
abbrev pub through_calls : Bool → List ℕ → List Call
through_calls false name = []
through_calls true name = socket_call (place_from 0 name socket_calls) ++ ipc_call (place_from 0 name ipc_calls)

-- the calls of a name in a set
abbrev pub calls_named : Settings → CallSet → Bool → List ℕ → List Call
calls_named s set alone name =
    direct_call (number_of s set name) ++ through_calls (is_same_set set I386 && alone) name

-- the rule of calls with some comparisons
abbrev pub rule_with : List Call → Response → List Comparison → RuleData
rule_with calls response cs = record { calls = calls; comparisons = cs; response = response }

-- the rules of a rule in a set
abbrev pub rules_of : Settings → CallSet → ProfileRuleData → List RuleData
rules_of s set rule =
    if rule.applies
    then map (rule_with (flat_map (calls_named s set (length rule.comparisons == 0)) rule.names) rule.response)
    (alternatives rule.comparisons)
    else []

-- the rules of a set
abbrev pub rules_of_set : Settings → List ProfileRuleData → CallSet → SetRulesData
rules_of_set s rules set = record { set = set; rules = flat_map (rules_of s set) rules }

-- what a profile says
abbrev pub plan_of : Settings → ProfileData → PlanData
plan_of s profile = record {
  parts = map (rules_of_set s profile.rules) profile.sets;
  default = profile.default;
  reading = s.conflicts;
  newer = s.newer;
}
