-- What a JSON profile says: the keys that it may have, the texts that it knows, and what its parts stand for.
use Rattle.std.specs.Prelude.{ℕ, ◌+◌, ◌-◌, ◌*◌, ℤ, pos, negsuc, Bool, true, false, ◌&&◌, ◌==◌, nat_lt, nat_le, if◌then◌else◌, List, [], ◌∷◌, fold, codes, Option, Some, None, unwrap_or}
use Rattle.sf_profile.specs.Common.{bytes_eq, CallSet, X64, X32, I386, Aarch64, Arm, Argument, Arg0, Arg1, Arg2, Arg3, Arg4, Arg5, Comparing, NotEqual, Less, LessOrEqual, Equal, GreaterOrEqual, Greater, MaskedEqual, Response, KillProcess, KillThread, Trap, Errno, Notify, Tracer, Log, Allow, Version, VersionRead}

-- ---- keys

abbrev pub profile_keys : List (List ℕ)
profile_keys =
    codes "defaultAction" ∷ codes "defaultErrnoRet" ∷ codes "defaultErrno" ∷ codes "architectures" ∷ codes "archMap"
    ∷ codes "flags" ∷ codes "listenerPath" ∷ codes "listenerMetadata" ∷ codes "comment" ∷ codes "syscalls" ∷ []

abbrev pub map_keys : List (List ℕ)
map_keys = codes "architecture" ∷ codes "subArchitectures" ∷ []

abbrev pub rule_keys : List (List ℕ)
rule_keys =
    codes "names" ∷ codes "name" ∷ codes "action" ∷ codes "errnoRet" ∷ codes "errno" ∷ codes "args"
    ∷ codes "comment" ∷ codes "includes" ∷ codes "excludes" ∷ []

abbrev pub argument_keys : List (List ℕ)
argument_keys = codes "index" ∷ codes "value" ∷ codes "valueTwo" ∷ codes "op" ∷ []

abbrev pub condition_keys : List (List ℕ)
condition_keys = codes "arches" ∷ codes "caps" ∷ codes "minKernel" ∷ []

-- ---- texts

-- the set of calls that a profile has this name for
abbrev pub set_named : List ℕ → Option CallSet
set_named text =
    if bytes_eq text (codes "SCMP_ARCH_X86_64") then Some X64
    else if bytes_eq text (codes "SCMP_ARCH_X32") then Some X32
    else if bytes_eq text (codes "SCMP_ARCH_X86") then Some I386
    else if bytes_eq text (codes "SCMP_ARCH_AARCH64") then Some Aarch64
    else if bytes_eq text (codes "SCMP_ARCH_ARM") then Some Arm
    else None

-- the name of a set in a profile
abbrev pub name_of_set : CallSet → List ℕ
name_of_set X64 = codes "SCMP_ARCH_X86_64"
name_of_set X32 = codes "SCMP_ARCH_X32"
name_of_set I386 = codes "SCMP_ARCH_X86"
name_of_set Aarch64 = codes "SCMP_ARCH_AARCH64"
name_of_set Arm = codes "SCMP_ARCH_ARM"

-- the name of a set among the `arches` of a rule
abbrev pub arch_name_of_set : CallSet → List ℕ
arch_name_of_set X64 = codes "amd64"
arch_name_of_set X32 = codes "x32"
arch_name_of_set I386 = codes "x86"
arch_name_of_set Aarch64 = codes "arm64"
arch_name_of_set Arm = codes "arm"

-- the response of an action's name, with a number where it has one
abbrev pub response_named : List ℕ → ℕ → Option Response
response_named text n =
    if bytes_eq text (codes "SCMP_ACT_ALLOW") then Some Allow
    else if bytes_eq text (codes "SCMP_ACT_ERRNO") then Some (Errno n)
    else if bytes_eq text (codes "SCMP_ACT_KILL") then Some KillThread
    else if bytes_eq text (codes "SCMP_ACT_KILL_THREAD") then Some KillThread
    else if bytes_eq text (codes "SCMP_ACT_KILL_PROCESS") then Some KillProcess
    else if bytes_eq text (codes "SCMP_ACT_TRAP") then Some Trap
    else if bytes_eq text (codes "SCMP_ACT_NOTIFY") then Some Notify
    else if bytes_eq text (codes "SCMP_ACT_TRACE") then Some (Tracer n)
    else if bytes_eq text (codes "SCMP_ACT_LOG") then Some Log
    else None

-- the comparison of a name
abbrev pub comparing_named : List ℕ → Option Comparing
comparing_named text =
    if bytes_eq text (codes "SCMP_CMP_NE") then Some NotEqual
    else if bytes_eq text (codes "SCMP_CMP_LT") then Some Less
    else if bytes_eq text (codes "SCMP_CMP_LE") then Some LessOrEqual
    else if bytes_eq text (codes "SCMP_CMP_EQ") then Some Equal
    else if bytes_eq text (codes "SCMP_CMP_GE") then Some GreaterOrEqual
    else if bytes_eq text (codes "SCMP_CMP_GT") then Some Greater
    else if bytes_eq text (codes "SCMP_CMP_MASKED_EQ") then Some MaskedEqual
    else None

-- a response with data of its own: an error number, or what a tracer is told
abbrev pub has_data : Response → Bool
has_data (Errno n) = true
has_data (Tracer n) = true
has_data _ = false

-- a number from 0 to a greatest one; none where it is another one
abbrev pub up_to : ℕ → ℤ → Option ℕ
up_to most (pos n) = if nat_le n most then Some n else None
up_to most (negsuc n) = None

-- a number where one is given, or this one; none where that isn't from 0 to a greatest one
abbrev pub up_to_or : ℕ → ℕ → Option ℤ → Option ℕ
up_to_or absent most None = Some absent
up_to_or absent most (Some z) = up_to most z

-- the argument with an index
abbrev pub argument_numbered : ℕ → Argument
argument_numbered n =
    if n == 0 then Arg0 else if n == 1 then Arg1 else if n == 2 then Arg2 else if n == 3 then Arg3
    else if n == 4 then Arg4 else Arg5

-- ---- kernels

-- one digit more, where the number has at most four
abbrev pub with_digit : VersionRead → ℕ → VersionRead
with_digit v digit =
    if nat_lt (unwrap_or v.digits 0) 1000
    then record { major = v.major; digits = Some (10 * unwrap_or v.digits 0 + digit); wrong = v.wrong }
    else record { major = v.major; digits = v.digits; wrong = true }

-- the point, which comes once, after a number
abbrev pub after_point : VersionRead → Option ℕ → Option ℕ → VersionRead
after_point v None (Some n) = record { major = Some n; digits = None; wrong = v.wrong }
after_point v None None = record { major = v.major; digits = v.digits; wrong = true }
after_point v (Some m) o = record { major = v.major; digits = v.digits; wrong = true }

-- one byte more: two numbers of at most four digits, with a point between them
abbrev pub version_step : VersionRead → ℕ → VersionRead
version_step v b =
    if nat_le 48 b && nat_le b 57 then with_digit v (b - 48)
    else if b == 46 then after_point v v.major v.digits
    else record { major = v.major; digits = v.digits; wrong = true }

-- the version of two numbers that were read
abbrev pub version_where : Bool → Option ℕ → Option ℕ → Option Version
version_where false (Some major) (Some minor) = Some (record { major = major; minor = minor })
version_where _ _ _ = None

-- the version that a text is: two numbers with a point between them
abbrev pub version_read : VersionRead → Option Version
version_read v = version_where v.wrong v.major v.digits

abbrev pub version_of : List ℕ → Option Version
version_of text = version_read (fold version_step (record { major = None; digits = None; wrong = false }) text)

-- the first version is the second one, or newer
abbrev pub is_at_least : Version → Version → Bool
is_at_least a b = if a.major == b.major then nat_le b.minor a.minor else nat_lt b.major a.major
