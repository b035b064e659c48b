-- Sets of calls of several files, joined: a file may add calls to a set that a file before it has.
use Rattle.std.specs.Prelude.{◌≡◌, ◌⊎◌, ℕ, ◌+◌, ◌==◌, ◌&&◌, ◌||◌, not, nat_lt, Bool, List, [], ◌∷◌, ◌++◌, filter, length, position, slice_get, slice_set, if◌then◌else◌, Option, Some, None, Result, Ok, Err}
use Rattle.std.specs.List.{list_all, list_any}
use Rattle.std.specs.Str.{bytes_eq}
use Rattle.sf_names.specs.declared.fault.Fault.{Fault}
use Rattle.sf_names.specs.declared.fault.Fault.TheVariants as faults
use Rattle.sf_names.specs.Names.{CallData, GivesSet, NamesData, has_set}

-- ---- a set and a further one of its name

-- the two calls have one name and one number
abbrev pub is_same : CallData → CallData → Bool
is_same c known = (known.number == c.number) && bytes_eq known.name c.name

-- the two calls have one name, or one number
abbrev pub is_alike : CallData → CallData → Bool
is_alike c known = (known.number == c.number) || bytes_eq known.name c.name

-- the call is one of these
abbrev pub is_there : List CallData → CallData → Bool
is_there calls c = list_any (is_same c) calls

-- The call may stand beside these: it is one of them, or none of them has its name or its number. So no name gets a
-- second number, and no number a second name.
abbrev pub may_stand : List CallData → CallData → Bool
may_stand calls c = is_there calls c || not (list_any (is_alike c) calls)

-- a set may get the calls of a further one: their architectures are one, and each call may stand beside those it has
abbrev pub may_add : NamesData → NamesData → Bool
may_add n more = (n.arch == more.arch) && list_all (may_stand n.calls) more.calls

-- those of the calls that the set hasn't
abbrev pub new_calls : NamesData → NamesData → List CallData
new_calls n more = filter (λ c. not (is_there n.calls c)) more.calls

-- the set, and behind its calls those of a further one that it hasn't
abbrev pub with_calls_of : NamesData → NamesData → NamesData
with_calls_of n more = record { set = n.set; arch = n.arch; calls = n.calls ++ new_calls n more }

-- The set that a set and a further one make, or what is wrong: an architecture, a name or a number; then that there
-- would be more than 1,024 calls.
abbrev pub joined_set : NamesData → NamesData → Result NamesData Fault
joined_set n more =
    if not (may_add n more) then Err faults.Key
    else if nat_lt 1024 (length n.calls + length (new_calls n more)) then Err faults.Count
    else Ok (with_calls_of n more)

-- ---- sets, and further ones

-- the first set of this name is this one, and stands at this place
abbrev pub HasSetAt : List ℕ → List NamesData → ℕ → NamesData → Type 0
HasSetAt set sets place n = (position (has_set set) sets ≡ Some place) × (slice_get sets place ≡ Some n)

-- in place of the set of its name stands what the two make, with the calls by their numbers
pub record IsAdded (sets : List NamesData) (more : NamesData) (after : List NamesData) : Type 0 where
  pub place : ℕ
  pub known : NamesData
  pub at : HasSetAt more.set sets place known
  pub joined : NamesData
  pub made : GivesSet (Ok joined) (joined_set known more)
  pub others : after ≡ slice_set sets place joined

-- what the sets are after one more: it stands behind them where none has its name; else its calls came to the set that
-- has it
abbrev pub IsSetJoined : List NamesData → NamesData → List NamesData → Type 0
IsSetJoined sets more after =
    ((position (has_set more.set) sets ≡ None) × (after ≡ sets ++ more ∷ [])) ⊎ IsAdded sets more after

-- why a set can't be joined to these: what it and the set of its name make is refused
pub record IsSetUnfit (sets : List NamesData) (more : NamesData) (fault : Fault) : Type 0 where
  pub place : ℕ
  pub known : NamesData
  pub at : HasSetAt more.set sets place known
  pub refused : joined_set known more ≡ Err fault

-- what the sets are after more of them, one after the other
abbrev pub AreSetsJoined : List NamesData → List NamesData → List NamesData → Type 0
AreSetsJoined sets [] after = after ≡ sets
AreSetsJoined sets (one ∷ more) after = (middle : List NamesData) × IsSetJoined sets one middle
    × AreSetsJoined middle more after

-- why more sets can't be joined: those before some one can, and are; that one can't
pub record AreSetsUnfit (sets more after : List NamesData) (fault : Fault) : Type 0 where
  pub done : List NamesData
  pub one : NamesData
  pub rest : List NamesData
  pub whole : more ≡ done ++ one ∷ rest
  pub joined : AreSetsJoined sets done after
  pub unfit : IsSetUnfit after one fault
