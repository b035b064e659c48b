-- What a profile is read for: a machine, a container and a kernel, with the numbers of calls.
use Rattle.std.specs.Prelude.{ℕ, Bool, ◌==◌, not, if◌then◌else◌, List, find, count_by, Option, Some, None, is_some, option_map, string_bytes}
use Rattle.sf_profile.specs.Common.{list_any, bytes_eq, NamesData, is_low_call, number_of_call, CallSet, X64, X32, I386, Aarch64, Arm, Calls, Settings}

-- sets by number, to compare them
abbrev pub set_place : CallSet → ℕ
set_place X64 = 0
set_place X32 = 1
set_place I386 = 2
set_place Aarch64 = 3
set_place Arm = 4

abbrev pub is_same_set : CallSet → CallSet → Bool
is_same_set a b = set_place a == set_place b

-- the calls of a set are given once
abbrev pub has_calls : Settings → CallSet → Bool
has_calls s set = count_by (λ (c : Calls). is_same_set c.set set) s.calls.items == 1

-- the number of a call, among the calls that are found
abbrev pub number_where : Option Calls → List ℕ → Option ℕ
number_where None name = None
number_where (Some c) name = number_of_call c.names name

abbrev pub number_of : Settings → CallSet → List ℕ → Option ℕ
number_of s set name = number_where (find (λ (c : Calls). is_same_set c.set set) s.calls.items) name

-- no given set has a call of this name
abbrev pub is_unknown : Settings → List ℕ → Bool
is_unknown s name = not (list_any (λ (c : Calls). is_some (number_where (Some c) name)) s.calls.items)

-- the container has a capability
abbrev pub has_cap : Settings → List ℕ → Bool
has_cap s text = list_any (λ cap. bytes_eq text (string_bytes cap)) s.caps.items

-- ---- the set of names

-- The set of an architecture's number; of the two of x86-64, that of 64-bit calls where some call has a number of
-- these.
abbrev pub set_of_arch : Bool → ℕ → Option CallSet
set_of_arch low arch =
    if arch == 0xc000003e then Some (if low then X64 else X32)
    else if arch == 0x40000003 then Some I386
    else if arch == 0xc00000b7 then Some Aarch64
    else if arch == 0x40000028 then Some Arm
    else None

-- the set whose calls these are
abbrev pub set_of_names : NamesData → Option CallSet
set_of_names names = set_of_arch (list_any is_low_call names.calls) names.arch

-- the calls of that set
abbrev pub calls_of_names : NamesData → Option Calls
calls_of_names names = option_map (λ set. record { set = set; names = names }) (set_of_names names)
