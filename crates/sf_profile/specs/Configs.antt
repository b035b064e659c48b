-- Where the profile stands in a file. A whole config.json has it at `seccomp` of `linux`, and then no other key may be
-- one that some runtime takes for a key of the way there, or of a profile.
use Rattle.std.specs.Prelude.{ℕ, ◌==◌, Bool, not, ◌&&◌, ◌||◌, if◌then◌else◌, List, [], map, codes, Option, Some, None}
use Rattle.sf_profile.specs.Common.{list_any, list_all, to_ascii_lowercase, bytes_eq, chars, Data}
use Rattle.sf_profile.specs.Trees.{absent_or, at, is_absent, is_object_with, listed}
use Rattle.sf_profile.specs.Profiles.{profile_keys}

-- A character without its case, as Go's encoding/json compares keys: the sign of kelvins is a k, and the long s an s.
abbrev pub folded : ℕ → ℕ
folded c = if c == 0x212A then 107 else if c == 0x17F then 115 else to_ascii_lowercase c

-- Go takes a key for this one, which is ASCII: they are equal, or differ only in case
abbrev pub is_taken_for : List ℕ → List ℕ → Bool
is_taken_for key known = bytes_eq (map folded (chars key)) (map to_ascii_lowercase known)

-- crun ends a key at its first byte 0
abbrev pub has_zero : List ℕ → Bool
has_zero key = list_any (λ b. b == 0) key

-- the key is the first one, or it has no byte 0, and Go takes it neither for that one nor for one of the others
abbrev pub is_clear : List ℕ → List (List ℕ) → List ℕ → Bool
is_clear own others key =
    bytes_eq key own || not (has_zero key || is_taken_for key own || list_any (is_taken_for key) others)

-- annotations without a filter, which crun would install in place of that of `linux.seccomp`
abbrev pub are_clear_annotations : Data → Bool
are_clear_annotations d = is_object_with (is_clear [] []) d && is_absent (codes "run.oci.seccomp_bpf_data") d

-- a rule in OCI's form: none of its keys is one that only docker and podman know
abbrev pub is_oci_rule : Data → Bool
is_oci_rule d = is_absent (codes "name") d && is_absent (codes "includes") d && is_absent (codes "excludes") d

-- a profile in this form
abbrev pub is_oci_profile : Data → Bool
is_oci_profile d = is_absent (codes "archMap") d && list_all is_oci_rule (listed (at (codes "syscalls") d))

-- all runtimes find the same `linux` and the same `seccomp` in it, know each key of this, and find no key of a profile
-- beside `linux`, and no other filter
abbrev pub is_clear_config : Data → Data → Bool
is_clear_config file linux =
    is_object_with (is_clear (codes "linux") profile_keys) file && is_object_with (is_clear (codes "seccomp") []) linux
    && absent_or are_clear_annotations (at (codes "annotations") file)
    && absent_or is_oci_profile (at (codes "seccomp") linux)

-- the profile in a file: in a whole config.json it is `seccomp` of `linux`, and without `linux` it is the file
abbrev pub profile_where : Option Data → Data → Option Data
profile_where None d = Some d
profile_where (Some l) d = if is_clear_config d l then at (codes "seccomp") l else None

abbrev pub profile_in : Data → Option Data
profile_in d = profile_where (at (codes "linux") d) d
