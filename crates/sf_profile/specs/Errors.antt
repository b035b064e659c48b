-- The names of Linux's error numbers, as include/uapi/asm-generic/errno-base.h and errno.h have them. ENOTSUP is the C
-- library's.
use Rattle.std.specs.Prelude.{ℕ, ◌-◌, ◌==◌, Bool, false, nat_lt, if◌then◌else◌, List, [], ◌∷◌, codes, Option, Some, None, slice_get}
use Rattle.sf_profile.specs.Common.{list_any, slice_split, bytes_eq}

-- numbers that follow one another: the first one, and the names of all, with a blank between two
unfoldable pub error_names : List (ℕ × List ℕ)
error_names =
    (1, codes "EPERM ENOENT ESRCH EINTR EIO ENXIO E2BIG ENOEXEC")
    ∷ (9, codes "EBADF ECHILD EAGAIN ENOMEM EACCES EFAULT ENOTBLK")
    ∷ (16, codes "EBUSY EEXIST EXDEV ENODEV ENOTDIR EISDIR EINVAL")
    ∷ (23, codes "ENFILE EMFILE ENOTTY ETXTBSY EFBIG ENOSPC ESPIPE")
    ∷ (30, codes "EROFS EMLINK EPIPE EDOM ERANGE EDEADLK ENAMETOOLONG")
    ∷ (37, codes "ENOLCK ENOSYS ENOTEMPTY ELOOP")
    ∷ (42, codes "ENOMSG EIDRM ECHRNG EL2NSYNC EL3HLT EL3RST ELNRNG")
    ∷ (49, codes "EUNATCH ENOCSI EL2HLT EBADE EBADR EXFULL ENOANO")
    ∷ (56, codes "EBADRQC EBADSLT")
    ∷ (59, codes "EBFONT ENOSTR ENODATA ETIME ENOSR ENONET ENOPKG")
    ∷ (66, codes "EREMOTE ENOLINK EADV ESRMNT ECOMM EPROTO EMULTIHOP")
    ∷ (73, codes "EDOTDOT EBADMSG EOVERFLOW ENOTUNIQ EBADFD EREMCHG")
    ∷ (79, codes "ELIBACC ELIBBAD ELIBSCN ELIBMAX ELIBEXEC EILSEQ")
    ∷ (85, codes "ERESTART ESTRPIPE EUSERS ENOTSOCK EDESTADDRREQ")
    ∷ (90, codes "EMSGSIZE EPROTOTYPE ENOPROTOOPT EPROTONOSUPPORT")
    ∷ (94, codes "ESOCKTNOSUPPORT EOPNOTSUPP EPFNOSUPPORT EAFNOSUPPORT")
    ∷ (98, codes "EADDRINUSE EADDRNOTAVAIL ENETDOWN ENETUNREACH")
    ∷ (102, codes "ENETRESET ECONNABORTED ECONNRESET ENOBUFS EISCONN")
    ∷ (107, codes "ENOTCONN ESHUTDOWN ETOOMANYREFS ETIMEDOUT")
    ∷ (111, codes "ECONNREFUSED EHOSTDOWN EHOSTUNREACH EALREADY")
    ∷ (115, codes "EINPROGRESS ESTALE EUCLEAN ENOTNAM ENAVAIL EISNAM")
    ∷ (121, codes "EREMOTEIO EDQUOT ENOMEDIUM EMEDIUMTYPE ECANCELED")
    ∷ (126, codes "ENOKEY EKEYEXPIRED EKEYREVOKED EKEYREJECTED")
    ∷ (130, codes "EOWNERDEAD ENOTRECOVERABLE ERFKILL EHWPOISON")
    ∷ (11, codes "EWOULDBLOCK")
    ∷ (35, codes "EDEADLOCK")
    ∷ (95, codes "ENOTSUP")
    ∷ []

-- the name of a number, among these of numbers that follow one another
abbrev pub name_from : ℕ → List ℕ → ℕ → Option (List ℕ)
name_from first names n = if nat_lt n first then None else slice_get (slice_split (λ b. b == 32) names) (n - first)

abbrev pub is_name : List ℕ → Option (List ℕ) → Bool
is_name text None = false
is_name text (Some name) = bytes_eq name text

-- a number is given, and the text is the name of its error
abbrev pub is_error_name : List ℕ → Option ℕ → Bool
is_error_name text None = false
is_error_name text (Some n) = list_any (λ (run : ℕ × List ℕ). is_name text (name_from run.0 run.1 n)) error_names
