-- What `profile` reads and writes.
use Rattle.std.specs.Prelude.{◌≡◌, ◌⊎◌, Bool, true, false, ◌&&◌, if◌then◌else◌, List, [], ◌∷◌, Option, Some, None, codes, is_some, map, string_bytes}
use Rattle.sf_evaluate.specs.Common.{Bor, Appends, list_all, list_any, bytes_eq, Row, Text, one_of, IsSwitch, paths_of, text_of, IsRefusedText, MakesFilterOf, AreNotesOfText, version_of, calls_of_names, set_of_names, CallSet, X64, I386, Aarch64, Arm, Reading, Strictest, Mildest, First, Calls, Settings, NamesData, Profile, Other}
use Rattle.sf_profile.specs.declared.fault.Fault.{Fault as ProfileFault}
use Rattle.sf_profile.specs.declared.fault.Fault.TheVariants.{Set as UnknownSet}
use Rattle.sf_stack.specs.declared.fault.Fault.TheVariants as faults
use Rattle.sf_evaluate.specs.declared.fault.Fault.{Fault}
use Rattle.sf_evaluate.specs.Asking.{AreNamesPaths}
use Rattle.sf_evaluate.specs.Faults.{IsOther, of_profile}
use Rattle.sf_evaluate.specs.Files.{AreKnownBytes}
use Rattle.sf_evaluate.specs.Names.{AreNamesRead, RefusesNaming}

-- ---- the words of the command line

-- the machine of a word: the set of calls that its own programs use
abbrev pub machine_named : Text → Option CallSet
machine_named text =
    if bytes_eq text (codes "x86_64") then Some X64
    else if bytes_eq text (codes "i386") then Some I386
    else if bytes_eq text (codes "aarch64") then Some Aarch64
    else if bytes_eq text (codes "arm") then Some Arm
    else None

-- which of several rules counts, by its word
abbrev pub reading_named : Text → Option Reading
reading_named text =
    if bytes_eq text (codes "strictest") then Some Strictest
    else if bytes_eq text (codes "mildest") then Some Mildest
    else if bytes_eq text (codes "first") then Some First
    else None

-- the capabilities of linux/capability.h, in the order of their numbers
abbrev pub capabilities : List Text
capabilities =
    codes "CAP_CHOWN" ∷ codes "CAP_DAC_OVERRIDE" ∷ codes "CAP_DAC_READ_SEARCH" ∷ codes "CAP_FOWNER"
    ∷ codes "CAP_FSETID" ∷ codes "CAP_KILL" ∷ codes "CAP_SETGID" ∷ codes "CAP_SETUID" ∷ codes "CAP_SETPCAP"
    ∷ codes "CAP_LINUX_IMMUTABLE" ∷ codes "CAP_NET_BIND_SERVICE" ∷ codes "CAP_NET_BROADCAST" ∷ codes "CAP_NET_ADMIN"
    ∷ codes "CAP_NET_RAW" ∷ codes "CAP_IPC_LOCK" ∷ codes "CAP_IPC_OWNER" ∷ codes "CAP_SYS_MODULE"
    ∷ codes "CAP_SYS_RAWIO" ∷ codes "CAP_SYS_CHROOT" ∷ codes "CAP_SYS_PTRACE" ∷ codes "CAP_SYS_PACCT"
    ∷ codes "CAP_SYS_ADMIN" ∷ codes "CAP_SYS_BOOT" ∷ codes "CAP_SYS_NICE" ∷ codes "CAP_SYS_RESOURCE"
    ∷ codes "CAP_SYS_TIME" ∷ codes "CAP_SYS_TTY_CONFIG" ∷ codes "CAP_MKNOD" ∷ codes "CAP_LEASE"
    ∷ codes "CAP_AUDIT_WRITE" ∷ codes "CAP_AUDIT_CONTROL" ∷ codes "CAP_SETFCAP" ∷ codes "CAP_MAC_OVERRIDE"
    ∷ codes "CAP_MAC_ADMIN" ∷ codes "CAP_SYSLOG" ∷ codes "CAP_WAKE_ALARM" ∷ codes "CAP_BLOCK_SUSPEND"
    ∷ codes "CAP_AUDIT_READ" ∷ codes "CAP_PERFMON" ∷ codes "CAP_BPF" ∷ codes "CAP_CHECKPOINT_RESTORE" ∷ []

abbrev pub is_capability : Text → Bool
is_capability text = list_any (bytes_eq text) capabilities

-- no kernel is named, or its version
abbrev pub is_kernel_or_none : Text → Bool
is_kernel_or_none [] = true
is_kernel_or_none text = is_some (version_of text)

-- the words behind the options are among those that these take
abbrev pub profile_words_fit : List Row → Bool
profile_words_fit rows =
    (is_some (machine_named (text_of (codes "machine") rows)) && is_some (reading_named
    (text_of (codes "conflicts") rows)))
    && (is_kernel_or_none (text_of (codes "kernel") rows) && list_all is_capability (paths_of (codes "cap") rows))

-- what the words say that a profile is read for, where they are among those that the options take
pub record AreSettings (rows : List Row) (s : Settings) : Type 0 where
  pub machine : machine_named (text_of (codes "machine") rows) ≡ Some s.machine
  pub caps : map string_bytes s.caps.items ≡ paths_of (codes "cap") rows
  pub kernel : s.kernel ≡ version_of (text_of (codes "kernel") rows)
  pub conflicts : reading_named (text_of (codes "conflicts") rows) ≡ Some s.conflicts
  pub newer : IsSwitch (one_of (codes "newer") rows) s.newer
  pub skip_unknown : IsSwitch (one_of (codes "skip-unknown") rows) s.skip_unknown
  pub fits : profile_words_fit rows ≡ true

-- ---- names, as the calls of sets

-- the calls are those of the names, set by set
abbrev pub AreCallsOf : List NamesData → List Calls → Type 0
AreCallsOf names calls = map Some calls ≡ map calls_of_names names

-- each of the sets is one of the five sets of calls
abbrev pub have_sets : List NamesData → Bool
have_sets names = list_all (λ (n : NamesData). is_some (set_of_names n)) names

-- the sets of the files at the paths were read, one of them is none of the five, and this is the fault
pub record HasOtherSet (holds : Text → Option Text) (paths : List (Bor Text)) (fault : Fault) : Type 0 where
  pub names : List NamesData
  pub read : AreNamesRead holds paths names
  pub other : have_sets names ≡ false
  pub is_set : fault ≡ Profile UnknownSet

-- ---- the whole

-- what a profile is read for, by the words of the command line and the files of names
pub record IsReadFor (holds : Text → Option Text) (rows : List Row) (s : Settings) : Type 0 where
  pub words : AreSettings rows s
  pub paths : List (Bor Text)
  pub named : AreNamesPaths rows paths
  pub names : List NamesData
  pub read : AreNamesRead holds paths names
  pub calls : AreCallsOf names s.calls.items

-- what is written of the bytes of a profile: its filter, or what is told of it
abbrev pub WritesOf : (wants_notes : Bool) → Settings → (bytes : Text) → (old new : Option Text) → Type 0
WritesOf false s bytes old new = (filter : Text) × MakesFilterOf s bytes filter × Appends old new filter
WritesOf true s bytes old new = (text : Text) × AreNotesOfText s bytes text × Appends old new text

-- `profile`: the filter that the profile in the file means is written, or what is told of it
pub record WritesProfile (holds : Text → Option Text) (rows : List Row) (old new : Option Text) : Type 0 where
  pub settings : Settings
  pub is_read_for : IsReadFor holds rows settings
  pub bytes : Text
  pub read : AreKnownBytes (holds (text_of (codes "profile") rows)) bytes
  pub wants_notes : Bool
  pub asked : IsSwitch (one_of (codes "notes") rows) wants_notes
  pub written : WritesOf wants_notes settings bytes old new

-- the bytes of a profile are refused for this reason
abbrev pub RefusesProfileOf : Settings → (bytes : Text) → Fault → Type 0
RefusesProfileOf s bytes fault = (reason : ProfileFault) × IsRefusedText s bytes reason × (fault ≡ of_profile reason)

-- the profile in the file is refused for this reason
pub record RefusesProfileFile (holds : Text → Option Text) (rows : List Row) (fault : Fault) : Type 0 where
  pub settings : Settings
  pub is_read_for : IsReadFor holds rows settings
  pub bytes : Text
  pub read : AreKnownBytes (holds (text_of (codes "profile") rows)) bytes
  pub refused : RefusesProfileOf settings bytes fault

-- a file of names is refused for this reason, memory ran out, or one of the sets is none of the five
abbrev pub RefusesNamesOf : (Text → Option Text) → List Row → Fault → Type 0
RefusesNamesOf holds rows fault =
    (paths : List (Bor Text)) × AreNamesPaths rows paths
    × (IsOther (RefusesNaming holds paths) fault ⊎ HasOtherSet holds paths fault)

-- Why `profile` is refused: writing or memory failed; a file of names is refused, or one of its sets; the file of the
-- profile, whose bytes aren't known, can't be read; or the profile is refused.
abbrev pub RefusesProfile : (Text → Option Text) → List Row → Fault → Type 0
RefusesProfile holds rows fault =
    (fault ≡ Other faults.Write) ⊎ (fault ≡ Other faults.Memory) ⊎ RefusesNamesOf holds rows fault
    ⊎ ((fault ≡ Other faults.Read) × (holds (text_of (codes "profile") rows) ≡ None))
    ⊎ RefusesProfileFile holds rows fault
