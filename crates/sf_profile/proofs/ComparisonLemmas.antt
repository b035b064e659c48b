-- What comparisons of a written filter ask.
use Rattle.sf_profile.proofs.Common.{common_steps, ◌≡◌, ℕ, ◌+◌, ◌*◌, ◌%◌, ◌^◌, ◌<◌, List, [], ◌∷◌, ◌++◌, append_assoc, Bool, true, false, length, Option, refl, ap, ◌∙◌, arith, if◌then◌else◌, ◌==◌, ◌&&◌, not, nat_lt, nat_le, bit_and, slice_index, list_all, nat_tests, and_block, and_le_r, Input, IsInput, passes, Test, Argument, Comparing, NotEqual, Less, LessOrEqual, Equal, GreaterOrEqual, Greater, MaskedEqual, Comparison, Instruction, Load, Mask, Branch, word_of, argument_in, cut, compares, holds, high, low, equal_code, order_code, masked_code, comparing_code, comparison_code, comparisons_code, sym}
use Rattle.sf_insn.specs.declared.ops.Test.TheVariants as tests
use Rattle.sf_profile.proofs.Returns.{returned, skip_more}

-- what comes next returns this, whatever A is, where so many instructions are skipped
abbrev pub Goes : List Instruction → Input → ℕ → Option ℕ → Type 0
Goes more d skip r = (a : ℕ) → returned more d skip a ≡ r

-- a choice of one of two results
abbrev pub choose : Bool → Option ℕ → Option ℕ → Option ℕ
choose b r s = if b then r else s

-- ---- numbers

-- two words make a number of 64 bits
abbrev joined : ℕ → ℕ → ℕ
joined h l = h * 2 ^ 32 + l

joined_small : (h l : ℕ) → h < 2 ^ 32 → l < 2 ^ 32 → joined h l % 2 ^ 64 ≡ joined h l
joined_small h l p q = omega arith

cut_halves : (v : ℕ) → v % 2 ^ 64 ≡ joined (high v) (low v)
cut_halves v = omega arith

equal_halves : (h l v : ℕ) → h < 2 ^ 32 → l < 2 ^ 32
    → (joined h l % 2 ^ 64 == v % 2 ^ 64) ≡ ((h == high v) && (l == low v))
equal_halves h l v p q = grind (arith, nat_tests)

greater_halves : (h l v : ℕ) → h < 2 ^ 32 → l < 2 ^ 32
    → nat_lt (v % 2 ^ 64) (joined h l % 2 ^ 64) ≡ (if nat_lt (high v) h then true
    else (h == high v) && nat_lt (low v) l)
greater_halves h l v p q = grind (arith, nat_tests)

at_least_halves : (h l v : ℕ) → h < 2 ^ 32 → l < 2 ^ 32
    → nat_le (v % 2 ^ 64) (joined h l % 2 ^ 64) ≡ (if nat_lt (high v) h then true
    else (h == high v) && nat_le (low v) l)
at_least_halves h l v p q = grind (arith, nat_tests)

joined_equal : (a b c e : ℕ) → b < 2 ^ 32 → e < 2 ^ 32 → (joined a b == joined c e) ≡ ((a == c) && (b == e))
joined_equal a b c e p q = grind (arith, nat_tests)

and_joined : (h l m : ℕ) → l < 2 ^ 32 → bit_and (joined h l) (m % 2 ^ 64)
    ≡ joined (bit_and h (high m)) (bit_and l (low m))
and_joined h l m p =
    let small : low m < 2 ^ 32 = omega arith in
    ap (bit_and (joined h l)) (cut_halves m) ∙ and_block 32 h (high m) l (low m) p small

masked_halves : (h l m w : ℕ) → h < 2 ^ 32 → l < 2 ^ 32
    → (bit_and (joined h l % 2 ^ 64) (m % 2 ^ 64) == bit_and (w % 2 ^ 64) (m % 2 ^ 64))
    ≡ ((bit_and h (high m) == bit_and (high w) (high m)) && (bit_and l (low m) == bit_and (low w) (low m)))
masked_halves h l m w p q = grind (arith, common_steps, and_le_r, joined_small, cut_halves, joined_equal, and_joined)

-- ---- pieces

exit : (c : Bool) (more : List Instruction) (d : Input) (t f a : ℕ) (r s : Option ℕ) → Goes more d t r → Goes more d f s
    → returned more d (if c then t else f) a ≡ choose c r s
exit c more d t f a r s p q = grind arith

skip_two : (i j : Instruction) (code : List Instruction) (d : Input) (n a : ℕ)
    → returned (i ∷ j ∷ code) d (n + 2) a ≡ returned code d n a
skip_two i j code d n a = skip_more (i ∷ j ∷ []) code d (n + 2) n a (omega arith)

skip_three : (i j k : Instruction) (code : List Instruction) (d : Input) (n a : ℕ)
    → returned (i ∷ j ∷ k ∷ code) d (n + 3) a ≡ returned code d n a
skip_three i j k code d n a = skip_more (i ∷ j ∷ k ∷ []) code d (n + 3) n a (omega arith)

equal_goes : (d : Input) (word v t f : ℕ) (more : List Instruction) (r s : Option ℕ) → Goes more d t r → Goes more d f s
    → (a : ℕ) → returned (equal_code true word v t f ++ more) d 0 a
    ≡ choose ((slice_index d.words (word + 1) == high v) && (slice_index d.words word == low v)) r s
equal_goes d word v t f more r s p q a = grind (arith, common_steps, skip_two)

order_goes : (test : Test) (d : Input) (word v t f : ℕ) (more : List Instruction) (r s : Option ℕ) → Goes more d t r
    → Goes more d f s → (a : ℕ) → returned (order_code true test word v t f ++ more) d 0 a
    ≡ choose (if nat_lt (high v) (slice_index d.words (word + 1)) then true
    else (slice_index d.words (word + 1) == high v) && passes test (slice_index d.words word) (low v)) r s
order_goes test d word v t f more r s p q a = grind (arith, common_steps, skip_two, skip_three)

-- a test of an argument
abbrev test_code : Bool → Test → ℕ → ℕ → ℕ → ℕ → List Instruction
test_code wide tests.Equal word v t f = equal_code wide word v t f
test_code wide test word v t f = order_code wide test word v t f

test_goes : (wide : Bool) (test : Test) (argument : Argument) (d : Input) (v t f : ℕ) (more : List Instruction)
    (r s : Option ℕ) → IsInput d → (test ≡ tests.AnyBit → ⊥) → Goes more d t r → Goes more d f s
    → (a : ℕ) → returned (test_code wide test (word_of argument) v t f ++ more) d 0 a
    ≡ choose (passes test (cut wide (argument_in argument d)) (cut wide v)) r s
test_goes wide test argument d v t f more r s input other p q a = by wide test other
  where
    word : ℕ
    word = word_of argument

    h : ℕ
    h = slice_index d.words (word + 1)

    l : ℕ
    l = slice_index d.words word

    small : h < 2 ^ 32
    small = input.each (word + 1)

    small_low : l < 2 ^ 32
    small_low = input.each word

    cut_low : cut false (argument_in argument d) ≡ l
    cut_low = omega (arith, small_low)

    by : (wide : Bool) (test : Test) → (test ≡ tests.AnyBit → ⊥)
        → returned (test_code wide test word v t f ++ more) d 0 a
        ≡ choose (passes test (cut wide (argument_in argument d)) (cut wide v)) r s
    by true tests.Equal other = rw (equal_halves h l v small small_low) (equal_goes d word v t f more r s p q a)
    by true tests.Greater other =
        rw (greater_halves h l v small small_low) (order_goes tests.Greater d word v t f more r s p q a)
    by true tests.GreaterOrEqual other =
        rw (at_least_halves h l v small small_low) (order_goes tests.GreaterOrEqual d word v t f more r s p q a)
    by true tests.AnyBit other = absurd (other refl)
    by false tests.Equal other = rw cut_low (exit (l == low v) more d t f l r s p q)
    by false tests.Greater other = rw cut_low (exit (nat_lt (low v) l) more d t f l r s p q)
    by false tests.GreaterOrEqual other = rw cut_low (exit (nat_le (low v) l) more d t f l r s p q)
    by false tests.AnyBit other = absurd (other refl)

-- what a comparison under a mask asks
masked_goes : (wide : Bool) (argument : Argument) (d : Input) (m w f : ℕ) (more : List Instruction)
    (r s : Option ℕ) → IsInput d → Goes more d 0 r → Goes more d f s
    → (a : ℕ) → returned (masked_code wide (word_of argument) m w 0 f ++ more) d 0 a
    ≡ choose (bit_and (cut wide (argument_in argument d)) (cut wide m) == bit_and (cut wide w) (cut wide m)) r s
masked_goes wide argument d m w f more r s input p q a = by wide
  where
    word : ℕ
    word = word_of argument

    h : ℕ
    h = slice_index d.words (word + 1)

    l : ℕ
    l = slice_index d.words word

    small : h < 2 ^ 32
    small = input.each (word + 1)

    small_low : l < 2 ^ 32
    small_low = input.each word

    cut_low : cut false (argument_in argument d) ≡ l
    cut_low = omega (arith, small_low)

    low_asks : Bool
    low_asks = bit_and l (low m) == bit_and (low w) (low m)

    rest : List Instruction
    rest = Load word ∷ Mask (low m) ∷ Branch tests.Equal (bit_and (low w) (low m)) 0 f ∷ []

    second : (b : Bool) → returned (rest ++ more) d (if b then 0 else f + 3) (bit_and h (high m))
        ≡ choose (b && low_asks) r s
    second true = exit low_asks more d 0 f (bit_and l (low m)) r s p q
    second false = skip_more rest more d (f + 3) f (bit_and h (high m)) (omega arith) ∙ q (bit_and h (high m))

    by : (wide : Bool) → returned (masked_code wide word m w 0 f ++ more) d 0 a
        ≡ choose (bit_and (cut wide (argument_in argument d)) (cut wide m) == bit_and (cut wide w) (cut wide m)) r s
    by true =
        rw (masked_halves h l m w small small_low) (second (bit_and h (high m) == bit_and (high w) (high m)))
    by false = rw cut_low (exit low_asks more d 0 f (bit_and l (low m)) r s p q)

-- ---- comparisons

choose_not : (b : Bool) (r s : Option ℕ) → choose b s r ≡ choose (not b) r s
choose_not b r s = grind arith

less_is : (a v : ℕ) → nat_lt a v ≡ not (nat_le v a)
less_is a v = grind (arith, nat_tests)

at_most_is : (a v : ℕ) → nat_le a v ≡ not (nat_lt v a)
at_most_is a v = grind (arith, nat_tests)

comparing_goes : (comparing : Comparing) (wide : Bool) (argument : Argument) (d : Input) (v w f : ℕ)
    (more : List Instruction) (r s : Option ℕ) → IsInput d → Goes more d 0 r → Goes more d f s
    → (a : ℕ) → returned (comparing_code comparing wide (word_of argument) v w f ++ more) d 0 a
    ≡ choose (compares comparing (cut wide (argument_in argument d)) (cut wide v) (cut wide w)) r s
comparing_goes NotEqual wide argument d v w f more r s input p q a =
    test_goes wide tests.Equal argument d v f 0 more s r input (λ e. cc) q p a
    ∙ choose_not (cut wide (argument_in argument d) == cut wide v) r s
comparing_goes Less wide argument d v w f more r s input p q a =
    test_goes wide tests.GreaterOrEqual argument d v f 0 more s r input (λ e. cc) q p a
    ∙ choose_not (nat_le (cut wide v) (cut wide (argument_in argument d))) r s
    ∙ ap (λ b. choose b r s) (sym (less_is (cut wide (argument_in argument d)) (cut wide v)))
comparing_goes LessOrEqual wide argument d v w f more r s input p q a =
    test_goes wide tests.Greater argument d v f 0 more s r input (λ e. cc) q p a
    ∙ choose_not (nat_lt (cut wide v) (cut wide (argument_in argument d))) r s
    ∙ ap (λ b. choose b r s) (sym (at_most_is (cut wide (argument_in argument d)) (cut wide v)))
comparing_goes Equal wide argument d v w f more r s input p q a =
    test_goes wide tests.Equal argument d v 0 f more r s input (λ e. cc) p q a
comparing_goes GreaterOrEqual wide argument d v w f more r s input p q a =
    test_goes wide tests.GreaterOrEqual argument d v 0 f more r s input (λ e. cc) p q a
comparing_goes Greater wide argument d v w f more r s input p q a =
    test_goes wide tests.Greater argument d v 0 f more r s input (λ e. cc) p q a
comparing_goes MaskedEqual wide argument d v w f more r s input p q a =
    masked_goes wide argument d v w f more r s input p q a

choose_both : (b c : Bool) (r s : Option ℕ) → choose b (choose c r s) s ≡ choose (b && c) r s
choose_both b c r s = grind arith

-- the comparisons of a rule lead on where all of them hold, and behind the next instruction where one doesn't
pub comparisons_go : (wide : Bool) (d : Input) (cs : List Comparison) (more : List Instruction) (r s : Option ℕ)
    → IsInput d → Goes more d 0 r → Goes more d 1 s
    → (a : ℕ) → returned (comparisons_code wide cs ++ more) d 0 a ≡ choose (list_all (holds wide d) cs) r s
comparisons_go wide d [] more r s input p q a = p a
comparisons_go wide d (c ∷ cs) more r s input p q a =
    let others = comparisons_code wide cs in
    let after = length others + 1 in
    ap (λ code. returned code d 0 a) (append_assoc (comparison_code wide c after) others more)
    ∙ comparing_goes c.comparing wide c.argument d c.value c.value_two after (others ++ more)
    (choose (list_all (holds wide d) cs) r s) s input (comparisons_go wide d cs more r s input p q)
    (λ b. skip_more others more d after 1 b refl ∙ q b) a
    ∙ choose_both (holds wide d c) (list_all (holds wide d) cs) r s
