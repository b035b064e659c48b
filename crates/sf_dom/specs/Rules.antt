-- The rules of facts: what is known of a node by its operation, what two pieces of knowledge say together, what
-- reduction makes of them, and what a test with a known result says of its two words.
use Rattle.std.specs.Prelude.{◌≡◌, ℕ, ◌+◌, ◌-◌, ◌*◌, ◌/◌, ◌%◌, ◌<◌, ◌≤◌, ◌^◌, Bool, true, false, List, if◌then◌else◌, ◌==◌, nat_lt, nat_le, max, min, bit_and, bit_or, Option, None, MatchOption}
use Rattle.sf_dom.specs.Common.{bit_at, w32, trailing_zeros, BinOp, Add, Sub, Mul, Div, Or, And, Lsh, Rsh, Xor, Test, Equal, Greater, GreaterOrEqual, AnyBit, Node, Const, Word, Bin, Neg, Known, Pair}
use Rattle.sf_dom.specs.Known.{IsNarrower, IsTight, known_of}
use Rattle.sf_dom.specs.Reduction.{AreApart}
use Rattle.sf_dom.specs.Reading.{known_at, numbers_at}

-- an interval, with no bit known
abbrev pub between : ℕ → ℕ → Known
between low high = known_of low high 0 0

-- nothing is known: the interval of all words, and no bit
abbrev pub full : Known
full = between 0 4294967295

-- what is known of a word that has, where a mask has ones, the bits of a value
abbrev pub masked : ℕ → ℕ → Known
masked mask value = known_of 0 4294967295 (bit_and mask (4294967295 - value)) (bit_and value mask)

-- what is known of a word, moved left by s bits: its known bits move, zeros come in from the right, and the interval
-- moves too where its upper end stays a word
abbrev pub moved_left : Known → ℕ → Known
moved_left a s =
    if nat_lt (a.high * 2 ^ s) (2 ^ 32)
    then known_of (a.low * 2 ^ s) (a.high * 2 ^ s) (bit_or (a.zeros * 2 ^ s % 2 ^ 32) (2 ^ s - 1))
    (a.ones * 2 ^ s % 2 ^ 32)
    else known_of 0 4294967295 (bit_or (a.zeros * 2 ^ s % 2 ^ 32) (2 ^ s - 1)) (a.ones * 2 ^ s % 2 ^ 32)

-- what is known of a word, moved right by s bits: its interval and its known bits move, and zeros come in from the left
abbrev pub moved_right : Known → ℕ → Known
moved_right a s =
    known_of (a.low / 2 ^ s) (a.high / 2 ^ s) (bit_or (a.zeros / 2 ^ s) (2 ^ 32 - 2 ^ (32 - s))) (a.ones / 2 ^ s)

-- what is known of the result of an operation, by what is known of its operands
unfoldable pub forward_known : BinOp → Known → Known → Known
forward_known Add a b =
    if nat_lt (a.high + b.high) (2 ^ 32) then between (a.low + b.low) (a.high + b.high)
    else if nat_le (2 ^ 32) (a.low + b.low) then between (a.low + b.low - 2 ^ 32) (a.high + b.high - 2 ^ 32)
    else full
forward_known Sub a b =
    if nat_le b.high a.low then between (a.low - b.high) (a.high - b.low)
    else if nat_lt a.high b.low then between (a.low + 2 ^ 32 - b.high) (a.high + 2 ^ 32 - b.low)
    else full
forward_known Mul a b =
    if nat_lt (a.high * b.high) (2 ^ 32) then between (a.low * b.low) (a.high * b.high) else full
forward_known Div a b =
    if nat_le 1 b.low then between (a.low / b.high) (a.high / b.low) else between 0 a.high
forward_known Or a b = known_of (max a.low b.low) 4294967295 (bit_and a.zeros b.zeros) (bit_or a.ones b.ones)
forward_known And a b = known_of 0 (min a.high b.high) (bit_or a.zeros b.zeros) (bit_and a.ones b.ones)
forward_known Xor a b =
    known_of 0 4294967295
    (bit_or (bit_and a.zeros b.zeros) (bit_and a.ones b.ones))
    (bit_or (bit_and a.zeros b.ones) (bit_and a.ones b.zeros))
forward_known Lsh a b = if b.low == b.high then moved_left a (b.low % 32) else full
forward_known Rsh a b = if b.low == b.high then moved_right a (b.low % 32) else between 0 a.high

-- what is known of the negation of a word
unfoldable pub forward_negated : Known → Known
forward_negated a =
    if nat_le 1 a.low then between (2 ^ 32 - a.high) (2 ^ 32 - a.low)
    else if a.high == 0 then between 0 0
    else full

-- what is known of a word that is known to be this number
abbrev pub number_known : ℕ → Known
number_known c = known_of c c (4294967295 - c) c

-- what is known of a node by its operation, from what is known of its operands: of a constant its number, of a word of
-- the input nothing
abbrev pub forward_node : List Known → Node → Known
forward_node ks (Const c) = number_known c
forward_node ks (Word i) = full
forward_node ks (Bin op a b) = forward_known op (known_at ks a.0) (known_at ks b.0)
forward_node ks (Neg a) = forward_negated (known_at ks a.0)

-- what two pieces of knowledge of one node say together
abbrev pub met : Known → Known → Known
met a b = known_of (max a.low b.low) (min a.high b.high) (bit_or a.zeros b.zeros) (bit_or a.ones b.ones)

-- Nothing more follows, by reduction, from what is known of a node: it is closed. Some number lies between the ends,
-- which are words. No bit is known to be both. The lower end isn't below the least number with the known bits, nor the
-- upper end above the greatest. Where the ends agree on a bit and on all higher ones, that bit is known. The ends
-- themselves need not have the known bits.
pub record IsClosed (k : Known) : Type 0 where
  pub ordered : k.low ≤ k.high
  pub fits : k.high < 2 ^ 32
  pub apart : AreApart k.zeros k.ones
  pub low : k.ones ≤ k.low
  pub high : k.high + k.zeros ≤ 4294967295
  pub leading : (i : ℕ) → i < 32 → k.low / 2 ^ i ≡ k.high / 2 ^ i
      → (bit_at k.zeros i ≡ 1 - bit_at k.low i) × (bit_at k.ones i ≡ bit_at k.low i)

-- Nothing more follows from what is known of a word for which these numbers are excluded: it is closed, and both ends
-- are numbers that are left.
pub record IsClosedWord (xs : ℕ) (k : Known) : Type 0 where
  pub known : IsClosed k
  pub tight : IsTight k xs

-- `new` is of this kind, and loses nothing of what was known. It is the widest: any knowledge of the kind that loses
-- nothing of `old` loses nothing of `new` either.
pub record IsWidest (kind : Known → Type 0) (old new : Known) : Type 0 where
  pub is : kind new
  pub narrower : IsNarrower old new
  pub widest : (k : Known) → kind k → IsNarrower old k → IsNarrower new k

-- every knowledge of this kind loses something of what was known
abbrev pub HasNone : (Known → Type 0) → Known → Type 0
HasNone kind old = (k : Known) → kind k → ¬ IsNarrower old k

-- Nothing more follows from what is known of the node at a place by itself. The first sixteen nodes are the words of
-- the input, for which numbers are excluded: of these nodes both ends are numbers that are left.
pub record IsClosedAt (ex : List ℕ) (i : ℕ) (k : Known) : Type 0 where
  pub known : IsClosed k
  pub tight : i < 16 → IsTight k (numbers_at ex i)

-- what is known of the node at a place is reduced to this: the widest knowledge that is closed there and loses nothing
abbrev pub IsReduction : List ℕ → ℕ → Known → Known → Type 0
IsReduction ex i old new = IsWidest (IsClosedAt ex i) old new

-- what is known of the node at a place contradicts itself: every knowledge that is closed there loses something of it
abbrev pub HasNoReduction : List ℕ → ℕ → Known → Type 0
HasNoReduction ex i old = HasNone (IsClosedAt ex i) old

-- what is known of the node at a place once that is reduced, or nothing where it contradicts itself
abbrev pub ReductionGives : List ℕ → ℕ → Known → Option Known → Type 0
ReductionGives ex i old r = MatchOption r (HasNoReduction ex i old) (IsReduction ex i old)

-- one step and then another, each of which may give nothing: the second goes on from what the first gives, and where
-- the first gives nothing, both together give nothing
abbrev pub Then : {A B : Type 0} → (Option A → Type 0) → (A → Option B → Type 0) → Option B → Type 0
Then {A} first second r = (o : Option A) × first o × MatchOption o (r ≡ None) (λ a. second a r)

-- A round of reduction loses nothing of what was known, and leaves the lower end not above the upper one. It goes no
-- further than it must: any closed knowledge that loses nothing of `old` loses nothing of `new` either. Where a round
-- changes nothing, the knowledge is closed.
pub record IsRound (old new : Known) : Type 0 where
  pub narrower : IsNarrower old new
  pub ordered : new.low ≤ new.high
  pub widest : (k : Known) → IsClosed k → IsNarrower old k → IsNarrower new k
  pub last : new ≡ old → IsClosed old

-- what is known of a word that is, besides, at least n
abbrev pub at_least : ℕ → Known → Known
at_least n k = known_of (max k.low n) k.high k.zeros k.ones

-- what is known of a word that is, besides, at most n
abbrev pub at_most : ℕ → Known → Known
at_most n k = known_of k.low (min k.high n) k.zeros k.ones

-- no number is left: the ends of the interval are crossed
abbrev pub nothing : Known
nothing = between 1 0

-- what is known of a word that is, besides, more than n
abbrev pub more_than : ℕ → Known → Known
more_than n k = if n == 4294967295 then nothing else at_least (n + 1) k

-- what is known of a word that is, besides, less than n
abbrev pub less_than : ℕ → Known → Known
less_than n k = if n == 0 then nothing else at_most (n - 1) k

-- what is known of a word that isn't c: an end that is c moves inwards by one, in `past_low` the lower, in `past_high`
-- the upper, in `past` each
abbrev pub past_low : ℕ → Known → Known
past_low c k = if k.low == c then more_than c k else k

abbrev pub past_high : ℕ → Known → Known
past_high c k = if k.high == c then less_than c k else k

abbrev pub past : ℕ → Known → Known
past c k = past_high c (past_low c k)

-- What is known of a word that has at least one of these bits. Where all of them are known to be 0, no number is left;
-- where all but one are known to be 0, that one is known to be 1.
abbrev pub some_of : ℕ → Known → Known
some_of bits k =
    if bit_and bits (4294967295 - k.zeros) == 0 then nothing
    else if bit_and bits (4294967295 - k.zeros) == 2 ^ trailing_zeros w32 (bit_and bits (4294967295 - k.zeros))
    then known_of k.low k.high k.zeros (bit_or k.ones (bit_and bits (4294967295 - k.zeros)))
    else k

-- what is known of a word that has none of these bits
abbrev pub none_of : ℕ → Known → Known
none_of bits k = known_of k.low k.high (bit_or k.zeros bits) k.ones

-- a rule for a number, applied with the number of another word where that word has only one; otherwise nothing changes
abbrev pub where_decided : Known → (ℕ → Known → Known) → Known → Known
where_decided other rule k = if other.low == other.high then rule other.low k else k

-- what a test with this result says of its two words, by what was known of them; nothing is reduced yet
unfoldable pub assumed : Test → Bool → Known → Known → Pair
assumed Equal true v w = record { node = met v w; other = met v w }
assumed Equal false v w = record { node = where_decided w past v; other = where_decided v past w }
assumed Greater true v w = record { node = more_than w.low v; other = less_than v.high w }
assumed Greater false v w = record { node = at_most w.high v; other = at_least v.low w }
assumed GreaterOrEqual true v w = record { node = at_least w.low v; other = at_most v.high w }
assumed GreaterOrEqual false v w = record { node = less_than w.high v; other = more_than v.low w }
assumed AnyBit true v w = record { node = where_decided w some_of v; other = w }
assumed AnyBit false v w = record { node = where_decided w none_of v; other = w }
