-- Which names of a profile's rules are those of calls.
use Rattle.std.specs.Prelude.{ℕ, Bool, not, ◌&&◌, ◌||◌, List, is_some}
use Rattle.sf_profile.specs.Common.{list_all, Settings}
use Rattle.sf_profile.specs.Settings.{is_unknown}
use Rattle.sf_profile.specs.Plans.{place_from, socket_calls, ipc_calls}
use Rattle.sf_profile.specs.Others.{other_names}

-- i386 has a call of this name behind another one, or another machine has one
abbrev pub is_elsewhere : List ℕ → Bool
is_elsewhere name =
    is_some (place_from 0 name socket_calls) || is_some (place_from 0 name ipc_calls)
    || is_some (place_from 0 name other_names)

-- no machine has a call of this name, as far as the given sets tell: it is misspelled, or newer than they are
abbrev pub is_nowhere : Settings → List ℕ → Bool
is_nowhere s name = is_unknown s name && not (is_elsewhere name)

abbrev pub is_somewhere : Settings → List ℕ → Bool
is_somewhere s name = not (is_nowhere s name)

-- a rule may have its names: they are names of calls, or such names are passed over, or the rule doesn't apply
abbrev pub may_have_names : Settings → Bool → List (List ℕ) → Bool
may_have_names s applies names = s.skip_unknown || not applies || list_all (is_somewhere s) names
