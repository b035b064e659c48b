-- What the rules of tests leave: each number that passes is admitted, and where one side has only one number, which
-- numbers are left.
use Rattle.sf_dom.proofs.Common.{◌≡◌, ◌≢◌, ℕ, ◌<◌, ◌^◌, ◌-◌, Bool, true, false, cond, arith, refl, ap, ◌∙◌, ◌⊎◌, inl, inr, eqb-true, nat_tests, Decides-eqb, or_lt, and_lt, w32, trailing_zeros, bit_and, bit_or, ◌==◌, common_steps, IsOneBit, Test, Equal, AnyBit, Known, Admits, IsDecided, IsPlainTest, TestGives, assumed, nothing, some_of, none_of, where_decided, IsClosed, closed-consistent, ne_eqb, known_of}
use Rattle.sf_dom.proofs.CommonBits.{no-common, common-open, and-zero, common-bits, common-none, common-some, common-decided, open-one, lowest-place}
use Rattle.sf_dom.proofs.Lawful.{met-admits, closed-zeros}

pub gives-differs : (x y : ℕ) → TestGives Equal x y false → x ≢ y
gives-differs x y h e = grind (arith, nat_tests)

pub at-decided : (rule : ℕ → Known → Known) (other k : Known) → other.low ≡ other.high
    → where_decided other rule k ≡ rule other.low k
at-decided rule other k e = ap (λ b. cond b (rule other.low k) k) ((Decides-eqb other.low other.high).1 e)

-- a rule is used where a test of numbers is true, or another one
either : (b : Bool) (x y : Known) (kind : Known → Type 0) → (b ≡ true → kind x) → (b ≡ false → kind y)
    → kind (cond b x y)
either true x y kind f g = f refl
either false x y kind f g = g refl

-- the cases of a word that has one of some bits
pub some-cases : (bits : ℕ) (k : Known) (kind : Known → Type 0)
    → (bit_and bits (4294967295 - k.zeros) ≡ 0 → kind nothing) → (bit_and bits (4294967295 - k.zeros) ≢ 0
    → bit_and bits (4294967295 - k.zeros) ≡ 2 ^ trailing_zeros w32 (bit_and bits (4294967295 - k.zeros))
    → kind (known_of k.low k.high k.zeros (bit_or k.ones (bit_and bits (4294967295 - k.zeros)))))
    → (bit_and bits (4294967295 - k.zeros) ≢ 0
    → bit_and bits (4294967295 - k.zeros) ≢ 2 ^ trailing_zeros w32 (bit_and bits (4294967295 - k.zeros)) → kind k)
    → kind (some_of bits k)
some-cases bits k kind none one more = grind (arith, common_steps, eqb-true, gives-differs)

some-admits : (k : Known) (x bits : ℕ) → bits < 2 ^ 32 → k.zeros < 2 ^ 32 → Admits k x → bit_and x bits ≢ 0
    → Admits (some_of bits k) x
some-admits k x bits lb lz h ne =
    some-cases bits k (λ r. Admits r x)
    (λ e. absurd (ne (common-open x bits k.zeros k.ones lb lz h.bits ∙ ap (bit_and x) e ∙ and-zero x)))
    (λ nz e. record {
      above = h.above;
      below = h.below;
      bits = common-bits x bits k.zeros k.ones _ lb lz e ne h.bits;
    }) (λ nz e. h)

-- each number that passes a test is admitted by what the test leaves of its word
pub test-admits : (t : Test) (s : Bool) (v w : Known) (x y : ℕ) → IsClosed v → IsClosed w → Admits v x → Admits w y
    → TestGives t x y s → Admits (assumed t s v w).node x × Admits (assumed t s v w).other y
unfolding assumed
test-admits Equal true v w x y cv cw h k g = let e = eqb-true x y g in
    (met-admits v w x h (rw e k), met-admits v w y (rw (← e) h) k)
test-admits AnyBit true v w x y cv cw h k g = let f = cw.fits in let z = closed-zeros v cv in
    let ne : bit_and x y ≢ 0 = grind (arith, nat_tests) in (
      either (w.low == w.high) (some_of w.low v) v (λ r. Admits r x) (λ e.
          let same : w.low ≡ y = omega (arith, k.above, k.below, eqb-true w.low w.high e) in
          some-admits v x w.low (omega (arith, k.above, k.below)) z h (rw same ne)) (λ e. h),
      k,
    )
test-admits AnyBit false v w x y cv cw h k g =
    let e : bit_and x y ≡ 0 = grind (arith, nat_tests) in (
      either (w.low == w.high) (none_of w.low v) v (λ r. Admits r x) (λ d.
          let same : w.low ≡ y = omega (arith, k.above, k.below, eqb-true w.low w.high d) in
          record { above = h.above; below = h.below; bits = no-common x w.low v.zeros v.ones (rw same e) h.bits })
          (λ d. h),
      k,
    )
test-admits t true v w x y cv cw h k g = let f = cv.fits in let j = cw.fits in grind (arith, nat_tests)
test-admits t false v w x y cv cw h k g = let f = cv.fits in let j = cw.fits in grind (arith, nat_tests)

pub test-zeros : (t : Test) (s : Bool) (v w : Known) → IsClosed v → IsClosed w
    → ((assumed t s v w).node.zeros < 2 ^ 32) × ((assumed t s v w).other.zeros < 2 ^ 32)
unfolding assumed
test-zeros Equal true v w h k =
    let z = or_lt 32 v.zeros w.zeros (closed-zeros v h) (closed-zeros w k) in (z, z)
test-zeros AnyBit false v w h k =
    let z = closed-zeros v h in let y = closed-zeros w k in
    let n = or_lt 32 v.zeros w.low z (omega (arith, k.ordered, k.fits)) in grind (arith, nat_tests)
test-zeros t true v w h k = let z = closed-zeros v h in let y = closed-zeros w k in grind (arith, nat_tests)
test-zeros t false v w h k = let z = closed-zeros v h in let y = closed-zeros w k in grind (arith, nat_tests)

-- a number that is left has one of some bits, where these are one bit, or the word has only that number
some-gives : (v : Known) (c x : ℕ) → c < 2 ^ 32 → IsClosed v → IsOneBit c ⊎ IsDecided v → Admits v x
    → Admits (some_of c v) x → bit_and x c ≢ 0
some-gives v c x f h how own left = by_how how
  where
    u : ℕ
    u = bit_and c (4294967295 - v.zeros)

    fits : u < 2 ^ 32
    fits = and_lt 32 c (4294967295 - v.zeros) f (omega arith)

    by_one : (i : ℕ) → i < 32 → c ≡ 2 ^ i → bit_and x c ≢ 0
    by_one i l e = some-cases c v (λ r. Admits r x → bit_and x c ≢ 0) (λ z a. absurd (omega (arith, a.above, a.below)))
        (λ nz p a. common-some x c u i v.zeros v.ones l e (open-one c (4294967295 - v.zeros) i e nz) a.bits) (λ nz p a.
        absurd (p (lowest-place u i l (open-one c (4294967295 - v.zeros) i e nz ∙ e)))) left

    by_decided : IsDecided v → bit_and x c ≢ 0
    by_decided d =
        let low = own.above in let high = own.below in let same : x ≡ v.low = omega arith in
        let lf : v.low < 2 ^ 32 = omega (arith, h.ordered, h.fits) in
        some-cases c v (λ r. Admits r x → bit_and x c ≢ 0) (λ z a. absurd (omega (arith, a.above, a.below)))
        (λ nz p a. common-decided x v.low v.zeros c lf ((closed-consistent v h).zeros d) same nz)
        (λ nz p a. common-decided x v.low v.zeros c lf ((closed-consistent v h).zeros d) same nz) left

    by_how : IsOneBit c ⊎ IsDecided v → bit_and x c ≢ 0
    by_how (inl o) = by_one o.0 o.1 o.2
    by_how (inr d) = by_decided d

-- Where the second word has only one number, each number that is left of the first passes: if the test is kept exactly,
-- or the first word has only one number too.
pub test-exact : (t : Test) (s : Bool) (v w : Known) (x : ℕ) → IsClosed v → IsClosed w → IsDecided w
    → (IsPlainTest t w.low × (t ≡ Equal → s ≡ false → x ≢ w.low)) ⊎ IsDecided v → Admits v x
    → Admits (assumed t s v w).node x → TestGives t x w.low s
unfolding assumed
test-exact AnyBit true v w x cv cw d how own h =
    let ne = some-gives v w.low x (omega (arith, cw.fits, d)) cv (elim how [
      | inl p ↦ inl p.0
      | inr e ↦ inr e
    ]) own (rw (at-decided some_of w v d) at h) in
    grind (arith, nat_tests)
test-exact AnyBit false v w x cv cw d how own h =
    let left : Admits (none_of w.low v) x = rw (at-decided none_of w v d) at h in
    let none = common-none x w.low v.zeros v.ones left.bits in
    grind (arith, nat_tests)
test-exact Equal false v w x cv cw d (inl how) own h = ne_eqb x w.low (how.1 refl refl)
test-exact Equal false v w x cv cw d (inr one) own h =
    let a = h.above in let b = h.below in let c = own.above in let e = own.below in grind (arith, nat_tests)
test-exact t true v w x cv cw d how own h = let a = h.above in let b = h.below in grind (arith, nat_tests)
test-exact t false v w x cv cw d how own h = let a = h.above in let b = h.below in grind (arith, nat_tests)
