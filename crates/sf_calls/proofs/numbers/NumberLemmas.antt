-- What `from_str_radix` reads of digits, and the parts of a text.
use Rattle.sf_calls.proofs.Common.{common_steps, and_parts, cases_lt, le-ltb, lt-ltb, ltb-true, without_leading_plus_none, arith, ◌≡◌, ◌≢◌, ◌∙◌, ℕ, ◌<◌, ◌≤◌, ◌^◌, true, List, [], ◌∷◌, Result, Ok, Err, refl, subst, ap, sym, inl, inr, zero, suc, slice_index, slice_get, Option, Some, option_map, IsErrAnd, MatchResult, Bor, digit_value, is_digit, list_all, OkIff, AllDigits, IsNumeral, ParsesUnsigned, digits_value, Misread, Width, are_digits, in_bits, is_number, number_of_part, read_number}

all_digits : (radix : ℕ) (ds : List ℕ) → list_all (λ c. is_digit c radix) ds ≡ true → AllDigits radix ds
all_digits radix [] all = tt
all_digits radix (c ∷ cs) all =
    let each = and_parts _ _ all in
    (ltb-true (digit_value c) radix each.0, all_digits radix cs each.1)

-- digits don't begin with a `+`
no_plus : (radix : ℕ) (ds : List ℕ) → radix ≤ 36 → AllDigits radix ds → slice_index ds 0 ≢ 43
no_plus radix [] few all is = omega (arith, is)
no_plus radix (c ∷ cs) few all is =
    let plus : 36 < radix = subst (λ n. digit_value n < radix) is all.0 in omega (arith, plus, few)

in_range : (n : ℕ) → n < 2 ^ 64 → in_bits 64 n ≡ Ok n
in_range n small = rw (lt-ltb n (2 ^ 64) small) refl

out_of_range : (n : ℕ) → (n < 2 ^ 64 → ⊥) → in_bits 64 n ≡ Err Width
out_of_range n large =
    elim (cases_lt n (2 ^ 64)) [ inl small ↦ absurd (large small) | inr most ↦ rw (le-ltb n (2 ^ 64) most) refl ]

-- what was read of a number, by whether it was one of 64 bits
by_width : {E : Type 0} (n : ℕ) (P : Type 0) (r : Result ℕ E) (s : Result ℕ Misread) (Post : E → Misread → Type 0) → P
    → ((e : E) (m : Misread) → Post e m → m ≡ Width) → OkIff r (P × (n < 2 ^ 64)) n
    → MatchResult r (λ x. s ≡ Ok x) (λ e. IsErrAnd s (Post e)) → s ≡ in_bits 64 n
by_width n P (Ok x) s Post p why iff is = is ∙ ap (λ (m : ℕ). Ok m) iff.1 ∙ sym (in_range n iff.0.1)
by_width n P (Err e) (Ok y) Post p why iff is = absurd is
by_width n P (Err e) (Err m) Post p why iff is =
    ap (λ (k : Misread). Err k) (why e m is) ∙ sym (out_of_range n (λ small. iff (p, small)))

-- the number that digits write, where `from_str_radix` reads it
pub number_read : {E : Type 0} (radix : ℕ) (ds : List ℕ) (r : Result ℕ E) (s : Result ℕ Misread)
    (Post : E → Misread → Type 0) → radix ≤ 36 → are_digits radix ds ≡ true
    → ((e : E) (m : Misread) → Post e m → m ≡ Width) → ParsesUnsigned 64 radix ds r
    → MatchResult r (λ x. s ≡ Ok x) (λ e. IsErrAnd s (Post e)) → s ≡ in_bits 64 (digits_value radix ds)
number_read radix ds r s Post few are why read is =
    let parts = and_parts _ _ are in
    let all = all_digits radix ds parts.1 in
    let plain = subst (λ l. OkIff r (IsNumeral radix l × (digits_value radix l < 2 ^ 64)) (digits_value radix l))
    (without_leading_plus_none ds (no_plus radix ds few all)) read in
    by_width (digits_value radix ds) (IsNumeral radix ds) r s Post (ltb-true 0 _ parts.0, all) why plain is

-- ---- the parts of a text

-- one of several texts that are numbers is a number
number_among : (parts : List (List ℕ)) (place : ℕ) (part : List ℕ) → list_all is_number parts ≡ true
    → slice_get parts place ≡ Some part → is_number part ≡ true
number_among [] place part all is = cc
number_among (p ∷ ps) zero part all is = grind (arith, and_parts)
number_among (p ∷ ps) (suc place) part all is = number_among ps place part (and_parts _ _ all).1 is

-- what is read of one of several texts that are numbers
pub part_read : (parts : List (List ℕ)) (place : ℕ) (o : Option (Bor (List ℕ))) (part : Bor (List ℕ))
    (r : Result ℕ Misread)
    → list_all is_number parts ≡ true → option_map (λ p. p.now) o ≡ slice_get parts place → o ≡ Some part
    → r ≡ read_number 64 part.now → r ≡ in_bits 64 (number_of_part (slice_get parts place))
part_read parts place o part r all told is read = grind (arith, common_steps, number_among)
