-- The keys of a policy file.
use Rattle.std.specs.Prelude.{ℕ, Bool, List, [], ◌∷◌, codes, not, Option, Some, None, is_some, if◌then◌else◌}
use Rattle.sf_policy.specs.Common.{list_any, bytes_eq, Members, no_members, member}

-- the keys of the sixteen words, in the order of `struct seccomp_data`
abbrev pub word_keys : List (List ℕ)
word_keys =
    codes "nr" ∷ codes "arch" ∷ codes "ip_lo" ∷ codes "ip_hi"
    ∷ codes "arg0_lo" ∷ codes "arg0_hi" ∷ codes "arg1_lo" ∷ codes "arg1_hi"
    ∷ codes "arg2_lo" ∷ codes "arg2_hi" ∷ codes "arg3_lo" ∷ codes "arg3_hi"
    ∷ codes "arg4_lo" ∷ codes "arg4_hi" ∷ codes "arg5_lo" ∷ codes "arg5_hi" ∷ []

-- the keys that a question may have
abbrev pub question_keys : List (List ℕ)
question_keys = codes "name" ∷ codes "actions" ∷ word_keys

-- the keys that the file may have at its top
abbrev pub top_keys : List (List ℕ)
top_keys = codes "version" ∷ codes "question" ∷ []

-- the keys that a word's table may have
abbrev pub mask_keys : List (List ℕ)
mask_keys = codes "mask" ∷ codes "value" ∷ codes "low" ∷ codes "high" ∷ []

-- the keys that a group of questions has
abbrev pub group_keys : List (List ℕ)
group_keys = codes "name" ∷ codes "title" ∷ codes "why" ∷ codes "questions" ∷ []

-- the key that a file of groups may have at its top
abbrev pub groups_keys : List (List ℕ)
groups_keys = codes "group" ∷ []

-- the first key of a table that isn't one of these
abbrev pub unknown_key : List (List ℕ) → Members → Option (List ℕ)
unknown_key keys no_members = None
unknown_key keys (member key d rest) = if list_any (bytes_eq key) keys then unknown_key keys rest else Some key

-- each key of the table is one of these
abbrev pub has_only : List (List ℕ) → Members → Bool
has_only keys ms = not (is_some (unknown_key keys ms))
