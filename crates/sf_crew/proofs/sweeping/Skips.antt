-- The questions that a sheet skips.
use Rattle.sf_crew.proofs.Common.{common_steps, ◌≡◌, ◌%◌, ℕ, ◌+◌, ◌<◌, bit_and, ◌*◌, ◌^◌, set, w64, length, List, sym, ◌∙◌, subst, arith, bit_at, bit_not, bit_at_ones, bit_at_clear_other, get_or-set_same, get_or-set_other, dite, ℕ_discrete, Note, bit_of, Noted}

-- a place below the job was noted for the question
abbrev pub HasLowerHit : ℕ → List Note → ℕ → Type 0
HasLowerHit job ns q = (r : ℕ) × Noted ns q r × (r < job)

-- with one bit of a word less
pub skips_more : (word job n at : ℕ) (ns ms : List Note) → at < 64 → ((q r : ℕ) → Noted ns q r → Noted ms q r)
    → ((bit : ℕ) → bit < 64 → bit_at n bit ≡ 0 → HasLowerHit job ns (word * 64 + bit))
    → HasLowerHit job ms (word * 64 + at) → (bit : ℕ) → bit < 64
    → bit_at (bit_and n (bit_not w64 (1 * 2 ^ at % 2 ^ 64))) bit ≡ 0 → HasLowerHit job ms (word * 64 + bit)
skips_more word job n at ns ms within more all this bit low none = dite (ℕ_discrete bit at)
    (λ e. subst (λ i. HasLowerHit job ms (word * 64 + i)) (sym e) this)
    (λ ne. let was = all bit low (sym (bit_at_clear_other w64 n at within bit low ne) ∙ none) in
    (was.0, more (word * 64 + bit) was.0 was.1, was.2))

-- with more notes, and no other bit
pub skips_still : (word job n : ℕ) (ns ms : List Note) → ((q r : ℕ) → Noted ns q r → Noted ms q r)
    → ((bit : ℕ) → bit < 64 → bit_at n bit ≡ 0 → HasLowerHit job ns (word * 64 + bit)) → (bit : ℕ) → bit < 64
    → bit_at n bit ≡ 0 → HasLowerHit job ms (word * 64 + bit)
skips_still word job n ns ms more all bit low none = grind (arith, common_steps)

-- where all bits are set, no question is skipped
pub skips_none : (word job : ℕ) (ns : List Note) (bit : ℕ) → bit < 64 → bit_at 18446744073709551615 bit ≡ 0
    → HasLowerHit job ns (word * 64 + bit)
skips_none word job ns bit low none = absurd (let set = bit_at_ones 64 bit low in omega (arith, set, none))

-- with one more of the four words
pub words_more : (words : List ℕ) (word job m : ℕ) (ns ms : List Note) → length words ≡ 4 → word < 4
    → ((q r : ℕ) → Noted ns q r → Noted ms q r) → ((q : ℕ) → q < 256 → bit_of words q ≡ 0 → HasLowerHit job ns q)
    → ((bit : ℕ) → bit < 64 → bit_at m bit ≡ 0 → HasLowerHit job ms (word * 64 + bit)) → (q : ℕ) → q < 256
    → bit_of (set words word m) q ≡ 0 → HasLowerHit job ms q
words_more words word job m ns ms long within more all these q few none =
    search (arith, get_or-set_same, get_or-set_other)
