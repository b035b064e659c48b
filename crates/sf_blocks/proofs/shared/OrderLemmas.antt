-- How two lists in full blocks compare, block by block.
use Rattle.sf_blocks.proofs.Common.{common_steps, ◌≡◌, ℕ, zero, suc, ◌+◌, ◌*◌, ◌<◌, ◌≤◌, ◌⊎◌, inl, inr, List, [], ◌∷◌, ◌++◌, length, map, get_or, refl, sym, ap, ◌∙◌, arith, length-append, length-drop, append_assoc, drop, min, false, true, Ordering, Less, Equal, Greater, nat_cmp, ordering_then, is_ne, slice_cmp, cases_lt, nat_tests, drop_more, drop_of_length-le, joined_by, AreWideBy, first-wide, rest-wide}

-- an order on the same behind it
then-assoc : (a b c : Ordering) → ordering_then a (ordering_then b c) ≡ ordering_then (ordering_then a b) c
then-assoc Less b c = refl
then-assoc Equal b c = refl
then-assoc Greater b c = refl

-- what differs first decides
pub decided : (a b : Ordering) → is_ne a ≡ true → ordering_then a b ≡ a
decided Less b n = refl
decided Equal b n = absurd cc
decided Greater b n = refl

pub undecided : (a b : Ordering) → is_ne a ≡ false → ordering_then a b ≡ b
undecided Less b n = absurd cc
undecided Equal b n = refl
undecided Greater b n = absurd cc

-- the numbers that are compared, each with the same before it
pub both_longer : (k m n : ℕ) → nat_cmp (k + m) (k + n) ≡ nat_cmp m n
both_longer k m n = grind (arith, nat_tests)

one_longer : (m n : ℕ) → nat_cmp m n ≡ nat_cmp (suc m) (suc n)
one_longer m n = grind (arith, nat_tests)

module _ {T : Type 0} (R : T → T → Ordering) where
  -- two elements at one place, and what is behind them
  pub by_elements : (xs ys : List T) (k : ℕ) (x y : T) → k < length xs → k < length ys
      → x ≡ get_or xs k x → y ≡ get_or ys k y
      → slice_cmp R (drop k xs) (drop k ys) ≡ ordering_then (R x y) (slice_cmp R (drop (k + 1) xs) (drop (k + 1) ys))
  by_elements xs ys k x y l m ex ey = rw (drop_more xs k x l, drop_more ys k y m, ← ex, ← ey) refl

  -- one list is empty
  empty_first : (xs ys : List T) → length xs ≡ 0 → slice_cmp R xs ys ≡ nat_cmp (length xs) (length ys)
  empty_first [] [] e = refl
  empty_first [] (y ∷ ys) e = sym (grind (arith, nat_tests))
  empty_first (x ∷ xs) ys e = absurd (omega (arith, e))

  empty_second : (xs ys : List T) → length ys ≡ 0 → slice_cmp R xs ys ≡ nat_cmp (length xs) (length ys)
  empty_second [] [] e = refl
  empty_second (x ∷ xs) [] e = sym (grind (arith, nat_tests))
  empty_second xs (y ∷ ys) e = absurd (omega (arith, e))

  -- no place is left in one of the lists
  pub by_lengths : (xs ys : List T) (k : ℕ) → k ≡ min (length xs) (length ys)
      → slice_cmp R (drop k xs) (drop k ys) ≡ nat_cmp (length xs) (length ys)
  by_lengths xs ys k e = by (cases_lt k (length xs))
    where
      left : length xs ≡ k + length (drop k xs)
      left = omega (arith, e, length-drop k xs)

      right : length ys ≡ k + length (drop k ys)
      right = omega (arith, e, length-drop k ys)

      by : (k < length xs) ⊎ (length xs ≤ k) → slice_cmp R (drop k xs) (drop k ys) ≡ nat_cmp (length xs) (length ys)
      by (inl p) =
          empty_second (drop k xs) (drop k ys) (omega (arith, e, right))
          ∙ sym (both_longer k (length (drop k xs)) (length (drop k ys))) ∙ rw (← left, ← right) refl
      by (inr p) =
          empty_first (drop k xs) (drop k ys) (omega (arith, e, left))
          ∙ sym (both_longer k (length (drop k xs)) (length (drop k ys))) ∙ rw (← left, ← right) refl

  -- parts of one length, and what is behind them
  pub by_parts : (xs ys us vs : List T) → length xs ≡ length ys
      → slice_cmp R (xs ++ us) (ys ++ vs) ≡ ordering_then (slice_cmp R xs ys) (slice_cmp R us vs)
  by_parts [] [] us vs e = refl
  by_parts [] (y ∷ ys) us vs e = absurd (omega (arith, e))
  by_parts (x ∷ xs) [] us vs e = absurd (omega (arith, e))
  by_parts (x ∷ xs) (y ∷ ys) us vs e =
      ap (λ o. ordering_then (R x y) o) (by_parts xs ys us vs (omega (arith, e)))
      ∙ then-assoc (R x y) (slice_cmp R xs ys) (slice_cmp R us vs)

  -- a list that goes on behind a part, and one that is no longer than that part
  pub goes_on_left : (xs us ys : List T) → length ys ≤ length xs
      → slice_cmp R (xs ++ us) ys ≡ ordering_then (slice_cmp R xs ys) (nat_cmp (length (xs ++ us)) (length ys))
  goes_on_left [] [] [] h = refl
  goes_on_left [] (u ∷ us) [] h = sym (grind (arith, nat_tests))
  goes_on_left [] us (y ∷ ys) h = absurd (omega (arith, h))
  goes_on_left (x ∷ xs) us [] h = refl
  goes_on_left (x ∷ xs) us (y ∷ ys) h =
      ap (λ o. ordering_then (R x y) o) (goes_on_left xs us ys (omega (arith, h))
      ∙ ap (λ o. ordering_then (slice_cmp R xs ys) o) (one_longer (length (xs ++ us)) (length ys)))
      ∙ then-assoc (R x y) (slice_cmp R xs ys) (nat_cmp (suc (length (xs ++ us))) (suc (length ys)))

  pub goes_on_right : (xs ys vs : List T) → length xs ≤ length ys
      → slice_cmp R xs (ys ++ vs) ≡ ordering_then (slice_cmp R xs ys) (nat_cmp (length xs) (length (ys ++ vs)))
  goes_on_right [] [] [] h = refl
  goes_on_right [] [] (v ∷ vs) h = sym (grind (arith, nat_tests))
  goes_on_right (x ∷ xs) [] vs h = absurd (omega (arith, h))
  goes_on_right [] (y ∷ ys) vs h = refl
  goes_on_right (x ∷ xs) (y ∷ ys) vs h =
      ap (λ o. ordering_then (R x y) o) (goes_on_right xs ys vs (omega (arith, h))
      ∙ ap (λ o. ordering_then (slice_cmp R xs ys) o) (one_longer (length xs) (length (ys ++ vs))))
      ∙ then-assoc (R x y) (slice_cmp R xs ys) (nat_cmp (suc (length xs)) (suc (length (ys ++ vs))))

  -- lists that are compared whole: where no element differs, neither do their lengths
  by_length : (xs ys : List T)
      → slice_cmp R xs ys ≡ ordering_then (slice_cmp R xs ys) (nat_cmp (length xs) (length ys))
  by_length [] [] = refl
  by_length [] (y ∷ ys) = refl
  by_length (x ∷ xs) [] = refl
  by_length (x ∷ xs) (y ∷ ys) =
      ap (λ o. ordering_then (R x y) o) (by_length xs ys ∙ ap (λ o. ordering_then (slice_cmp R xs ys) o)
      (one_longer (length xs) (length ys)))
      ∙ then-assoc (R x y) (slice_cmp R xs ys) (nat_cmp (suc (length xs)) (suc (length ys)))

-- the elements from a block on, and then the tail
abbrev pub from : {T : Type 0} → List (List T) → List T → ℕ → List T
from bs tail k = joined_by (λ xs. xs) (drop k bs) ++ tail

pub from-next : {T : Type 0} (bs : List (List T)) (tail : List T) (k : ℕ) (e : List T) → k < length bs
    → from bs tail k ≡ get_or bs k e ++ from bs tail (k + 1)
from-next bs tail k e h = grind (arith, common_steps, drop_more, append_assoc)

-- the elements of blocks, and those of the lists of their elements
joined-map : {B T : Type 0} (items : B → List T) (bs : List B)
    → joined_by items bs ≡ joined_by (λ xs. xs) (map items bs)
joined-map items [] = refl
joined-map items (b ∷ bs) = ap (λ ys. items b ++ ys) (joined-map items bs)

-- a list that is kept so, from its first block on
pub from-first : {B T : Type 0} (items : B → List T) (bs : List B) (tail xs : List T) → joined_by items bs ++ tail ≡ xs
    → xs ≡ from (map items bs) tail 0
from-first items bs tail xs is = sym is ∙ ap (λ ys. ys ++ tail) (joined-map items bs)

-- how long the elements from a block on are
pub length-from : {T : Type 0} (bs : List (List T)) (tail : List T) (k : ℕ) → AreWideBy (λ xs. xs) 16 bs → k ≤ length bs
    → length (from bs tail 0) ≡ 16 * k + length (from bs tail k)
length-from bs tail zero f h = omega arith
length-from [] tail (suc k) f h = absurd (omega (arith, h))
length-from (b ∷ bs) tail (suc k) f h =
    omega (
      arith,
      length-append (b ++ joined_by (λ xs. xs) bs) tail,
      length-append b (joined_by (λ xs. xs) bs),
      length-append (joined_by (λ xs. xs) bs) tail,
      first-wide (λ xs. xs) 16 b bs f,
      length-from bs tail k (rest-wide (λ xs. xs) 16 b bs f) (omega (arith, h)),
    )

module _ {T : Type 0} (R : T → T → Ordering) (bs cs : List (List T)) (t u : List T) (f : AreWideBy (λ xs. xs) 16 bs)
    (g : AreWideBy (λ xs. xs) 16 cs) where
  -- two blocks at one place
  pub by_blocks : (k : ℕ) → k < length bs → k < length cs
      → slice_cmp R (from bs t k) (from cs u k)
      ≡ ordering_then (slice_cmp R (get_or bs k []) (get_or cs k []))
      (slice_cmp R (from bs t (k + 1)) (from cs u (k + 1)))
  by_blocks k l m =
      rw (from-next bs t k [] l, from-next cs u k [] m)
      (by_parts R (get_or bs k []) (get_or cs k []) _ _ (f k [] l ∙ sym (g k [] m)))

  -- how long the whole lists are, where the same blocks stand before
  whole : (k : ℕ) → k ≤ length bs → k ≤ length cs
      → nat_cmp (length (from bs t k)) (length (from cs u k)) ≡ nat_cmp (length (from bs t 0)) (length (from cs u 0))
  whole k l m =
      rw (length-from bs t k f l, length-from cs u k g m)
      (sym (both_longer (16 * k) (length (from bs t k)) (length (from cs u k))))

  -- behind the last block of one of the lists
  pub at_end : (k : ℕ) (m n : List T) → k ≡ min (length bs) (length cs) → length t ≤ 16 → length u ≤ 16
      → (k < length bs → m ≡ get_or bs k []) → (length bs ≤ k → m ≡ t)
      → (k < length cs → n ≡ get_or cs k []) → (length cs ≤ k → n ≡ u)
      → slice_cmp R (from bs t k) (from cs u k)
      ≡ ordering_then (slice_cmp R m n) (nat_cmp (length (from bs t 0)) (length (from cs u 0)))
  at_end k m n e lt lu mb mt nb nt = by (cases_lt k (length bs)) (cases_lt k (length cs))
    where
      Goal : Type 0
      Goal = slice_cmp R (from bs t k) (from cs u k)
          ≡ ordering_then (slice_cmp R m n) (nat_cmp (length (from bs t 0)) (length (from cs u 0)))

      lengths : nat_cmp (length (from bs t k)) (length (from cs u k))
          ≡ nat_cmp (length (from bs t 0)) (length (from cs u 0))
      lengths = whole k (omega (arith, e)) (omega (arith, e))

      by : (k < length bs) ⊎ (length bs ≤ k) → (k < length cs) ⊎ (length cs ≤ k) → Goal
      by (inl p) (inl q) = absurd (omega (arith, e))
      by (inl p) (inr q) =
          let left : from bs t k ≡ m ++ from bs t (k + 1) = rw (mb p) (from-next bs t k [] p) in
          let right : from cs u k ≡ n = rw (drop_of_length-le cs q, nt q) refl in
          let long : length n ≤ length m = omega (
            arith,
            lu,
            ap length (nt q),
            ap length (mb p),
            f k [] p,
          ) in
          rw (← lengths, left, right) (goes_on_left R m (from bs t (k + 1)) n long)
      by (inr p) (inl q) =
          let left : from bs t k ≡ m = rw (drop_of_length-le bs p, mt p) refl in
          let right : from cs u k ≡ n ++ from cs u (k + 1) = rw (nb q) (from-next cs u k [] q) in
          let long : length m ≤ length n = omega (
            arith,
            lt,
            ap length (mt p),
            ap length (nb q),
            g k [] q,
          ) in
          rw (← lengths, left, right) (goes_on_right R m n (from cs u (k + 1)) long)
      by (inr p) (inr q) =
          let left : from bs t k ≡ m = rw (drop_of_length-le bs p, mt p) refl in
          let right : from cs u k ≡ n = rw (drop_of_length-le cs q, nt q) refl in
          rw (← lengths, left, right) (by_length R m n)
