-- The lines of the filters that were written, with those of one filter more.
use Rattle.sf_trace.proofs.Common.{◌≡◌, ℕ, ◌+◌, ◌<◌, Bool, List, ◌∷◌, ◌++◌, drop, get_or, length, append_assoc, refl, drop_more, Insn, AreFilterLines, StandUnder, filter_line}

pub one_filter_listed : (listed : Bool) (place : ℕ) (programs : List (List Insn)) (code : List Insn)
    (under rest old named new initial : List ℕ) → code ≡ get_or programs place code → place < length programs
    → named ≡ old ++ filter_line (place + 1) (length code) → StandUnder listed code under → new ≡ named ++ under
    → ((left : List ℕ) → AreFilterLines listed (place + 1) (drop place programs) left
    → (lines : List ℕ) × AreFilterLines listed 1 programs lines × (old ++ left ≡ initial ++ lines))
    → AreFilterLines listed (place + 1 + 1) (drop (place + 1) programs) rest
    → (lines : List ℕ) × AreFilterLines listed 1 programs lines × (new ++ rest ≡ initial ++ lines)
one_filter_listed listed place programs code under rest old named new initial at below name stands
    pushed so_far rested =
    let whole = filter_line (place + 1) (length code) ++ (under ++ rest) in
    let dropped : drop place programs ≡ code ∷ drop (place + 1) programs =
    rw at (drop_more programs place code below) in
    let these : AreFilterLines listed (place + 1) (drop place programs) whole =
    rw dropped (under, rest, stands, rested, refl) in
    let (lines, are, same) = so_far whole these in
    (lines, are, rw (pushed, name, append_assoc (old ++ filter_line (place + 1) (length code)), append_assoc old) same)
