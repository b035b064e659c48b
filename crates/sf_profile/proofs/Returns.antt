-- What the instructions of a written filter return, without the places at which they stand.
use Rattle.sf_profile.proofs.Common.{◌≡◌, ℕ, zero, suc, ◌+◌, List, [], ◌∷◌, ◌++◌, length, Option, Some, None, refl, arith, bit_and, if◌then◌else◌, slice_index, Input, passes, Instruction, Load, Mask, Branch, Skip, Return}

-- What instructions return on an input, where so many of them are skipped first, and A is this number; none where they
-- are left behind.
abbrev pub returned : List Instruction → Input → ℕ → ℕ → Option ℕ
returned [] d skip a = None
returned (i ∷ code) d (suc skip) a = returned code d skip a
returned (Load word ∷ code) d zero a = returned code d zero (slice_index d.words word)
returned (Mask k ∷ code) d zero a = returned code d zero (bit_and a k)
returned (Branch test k on_true on_false ∷ code) d zero a =
    returned code d (if passes test a k then on_true else on_false) a
returned (Skip k ∷ code) d zero a = returned code d k a
returned (Return k ∷ code) d zero a = Some k

-- skipping a piece and some instructions more
pub skip_more : (xs ys : List Instruction) (d : Input) (n k a : ℕ) → n ≡ length xs + k
    → returned (xs ++ ys) d n a ≡ returned ys d k a
skip_more [] ys d n k a e = let same : n ≡ k = omega arith in rw same refl
skip_more (x ∷ xs) ys d zero k a e = absurd (omega arith)
skip_more (x ∷ xs) ys d (suc n) k a e = skip_more xs ys d n k a (omega arith)

-- skipping a piece
pub skip_all : (xs ys : List Instruction) (d : Input) (n a : ℕ) → n ≡ length xs
    → returned (xs ++ ys) d n a ≡ returned ys d 0 a
skip_all xs ys d n a e = skip_more xs ys d n 0 a (omega arith)
