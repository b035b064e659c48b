-- The set of actions that names stand for.
use Rattle.std.specs.Prelude.{ℕ, Bool, false, List, [], ◌∷◌, codes, Option, Some, None}
use Rattle.sf_policy.specs.Common.{list_any, list_all, bytes_eq, Data, array, ActionSet}
use Rattle.sf_policy.specs.Trees.{texts_of}

-- the names of the actions, and of all the actions that have none
abbrev pub action_names : List (List ℕ)
action_names =
    codes "KILL_PROCESS" ∷ codes "KILL_THREAD" ∷ codes "TRAP" ∷ codes "ERRNO" ∷ codes "USER_NOTIF"
    ∷ codes "TRACE" ∷ codes "LOG" ∷ codes "ALLOW" ∷ codes "OTHER" ∷ []

-- the text is one of these names
abbrev pub is_action : List ℕ → Bool
is_action text = list_any (bytes_eq text) action_names

-- there are names, and each is that of an action
abbrev pub are_actions : List (List ℕ) → Bool
are_actions [] = false
are_actions (text ∷ texts) = list_all is_action (text ∷ texts)

-- the name is among the texts
abbrev pub is_text_among : List (List ℕ) → List ℕ → Bool
is_text_among texts name = list_any (λ text. bytes_eq text name) texts

-- the set of the actions that are named; it doesn't matter how often
abbrev pub actions_of : List (List ℕ) → ActionSet
actions_of texts = record {
  kill_process = is_text_among texts (codes "KILL_PROCESS");
  kill_thread = is_text_among texts (codes "KILL_THREAD");
  trap = is_text_among texts (codes "TRAP");
  errno = is_text_among texts (codes "ERRNO");
  user_notif = is_text_among texts (codes "USER_NOTIF");
  trace = is_text_among texts (codes "TRACE");
  log = is_text_among texts (codes "LOG");
  allow = is_text_among texts (codes "ALLOW");
  other = is_text_among texts (codes "OTHER");
}

-- the texts of an array; nothing where the value is of another kind, or an item is no text
abbrev pub texts_of_value : Data → Option (List (List ℕ))
texts_of_value (array ds) = texts_of ds
texts_of_value _ = None

-- the names at the key `actions`: where it is absent, those of the actions that let a call through
abbrev pub names_at : Option Data → Option (List (List ℕ))
names_at None = Some (codes "ALLOW" ∷ codes "LOG" ∷ [])
names_at (Some d) = texts_of_value d
