-- A number looked for in an ascending list, and put into it.
use Rattle.sf_dom.proofs.Common.{◌≡◌, ℕ, zero, suc, ◌+◌, ◌-◌, ◌<◌, ◌≤◌, ◌↔◌, ◌⊎◌, List, [], ◌∷◌, ◌++◌, length, get_or, ◌^◌, IsTrue, Bool, arith, sym, ◌∙◌, inl, inr, cases_eq, cases_lt, get_or_default, get_or_default_zero, Contains-append_left, Contains-append_right, Contains-append_cases, searched, IsNonDecreasingBy-insert, IsNonDecreasingBy-from_default, IsNonDecreasingBy-from_sort, bit_at_or, bit_at-lt, bit_at-pow_other, bit_at-pow_same, same_from_bits, bit_at, insert, IsBinarySearchResult, IsSorted, nat_cmp, Contains, slice_index, MatchOption, Result, Ok, Err, IfOk, bit_or, result_ok, AreAscending, set_of, none-has, Has, common_steps, Contains-permutation, IsPermutation-sym, IsPermutation-insert, Contains-push_cases}

-- a number that isn't at the place where it would stand is nowhere in the list
absent : (xs : List ℕ) (n at : ℕ) → ((k : ℕ) → k < at → get_or xs k 0 < n)
    → ((k : ℕ) → at ≤ k → k < length xs → n < get_or xs k 0) → ¬ Contains xs n
absent xs n at below above w = search (arith, get_or_default, cases_lt)

pub place-found : (xs : List ℕ) (n : ℕ) (r : Result ℕ ℕ) → AreAscending xs
    → IsBinarySearchResult (λ y. nat_cmp y n) xs r
    → MatchOption (result_ok r) (¬ Contains xs n) (λ at. (at < length xs) × (get_or xs at 0 ≡ n))
place-found xs n (Ok i) rising found = searched xs n (Ok i) found rising
place-found xs n (Err i) rising found =
    let at = searched xs n (Err i) found rising in
    absent xs n i at.1 at.2

-- two lists, one behind the other, where the second gets one more number
pub more-behind : (xs ys ys' : List ℕ) (n : ℕ) → ((m : ℕ) → Contains ys' m ↔ (Contains ys m ⊎ (m ≡ n)))
    → (m : ℕ) → Contains (xs ++ ys') m ↔ (Contains (xs ++ ys) m ⊎ (m ≡ n))
more-behind xs ys ys' n more m = (there, back)
  where
    there : Contains (xs ++ ys') m → Contains (xs ++ ys) m ⊎ (m ≡ n)
    there w = elim (Contains-append_cases xs ys' m w) [
      | inl h ↦ inl (Contains-append_left xs ys m h)
      | inr h ↦ elim ((more m).0 h) [ inl old ↦ inl (Contains-append_right xs ys m old) | inr e ↦ inr e ]
    ]

    back : Contains (xs ++ ys) m ⊎ (m ≡ n) → Contains (xs ++ ys') m
    back (inl w) = elim (Contains-append_cases xs ys m w) [
      | inl h ↦ Contains-append_left xs ys' m h
      | inr h ↦ Contains-append_right xs ys' m ((more m).1 (inl h))
    ]
    back (inr e) = Contains-append_right xs ys' m ((more m).1 (inr e))

pub inserted-rising : (xs : List ℕ) (n at : ℕ) → AreAscending xs → IsBinarySearchResult (λ y. nat_cmp y n) xs (Err at)
    → AreAscending (insert xs at n)
inserted-rising xs n at rising found i j le l =
    let place = searched xs n (Err at) found rising in
    IsNonDecreasingBy-insert (λ x. x) xs at n (IsNonDecreasingBy-from_default (λ x. x) xs 0 rising) place.0
    (λ k d b. let p = place.0 in omega (arith, place.1 k b, get_or_default xs k 0 d (omega arith)))
    (λ k d a b. omega (arith, place.2 k a b, get_or_default xs k 0 d b)) i j 0 le l

pub inserted-numbers : (xs : List ℕ) (n at m : ℕ) → Contains (insert xs at n) m ↔ (Contains xs m ⊎ (m ≡ n))
inserted-numbers xs n at m =
    let moved = IsPermutation-insert xs at n in (
      (λ w. elim (Contains-append_cases (n ∷ []) xs m (Contains-permutation (insert xs at n) (n ∷ xs) m
          (IsPermutation-sym (n ∷ xs) (insert xs at n) moved) w)) [
            | inl one ↦ elim (Contains-push_cases [] n m one) [
              | inl none ↦ absurd (omega (arith, none.1))
              | inr e ↦ inr (sym e)
            ]
            | inr old ↦ inl old
          ]),
      (λ s. Contains-permutation (n ∷ xs) (insert xs at n) m moved (elim s [
        | inl w ↦ Contains-append_right (n ∷ []) xs m w
        | inr e ↦ (0, omega arith, sym e)
      ])),
    )

-- a list that was sorted is ascending
pub sorted-rising : (xs : List ℕ) → IsSorted nat_cmp xs → AreAscending xs
sorted-rising xs sorted i j le l = IsNonDecreasingBy-from_sort (λ x. x) xs sorted i j 0 le l

-- a set with one more number
pub one-more : (n xs m : ℕ) → Has (bit_or (2 ^ n) xs) m ↔ (Has xs m ⊎ (m ≡ n))
one-more n xs m = grind (arith, common_steps, cases_eq, bit_at_or, bit_at-lt, bit_at-pow_other, bit_at-pow_same)

-- one number is one more than none
pub one-ok : {E : Type 0} (r : Result ℕ E) (x : ℕ) → IfOk r (λ v. v ≡ set_of (x ∷ []))
    → IfOk r (λ v. (n : ℕ) → Has v n ↔ (Has 0 n ⊎ (n ≡ x)))
one-ok (Ok v) x e = λ n. rw e (one-more x 0 n)
one-ok (Err e) x h = tt

-- a number is in the set of a list where it is one of the list's elements
pub in-contains : (xs : List ℕ) (n : ℕ) → Has (set_of xs) n → Contains xs n
in-contains [] n h = absurd (none-has n h)
in-contains (x ∷ xs) n h = elim ((one-more x (set_of xs) n).0 h) [
  | inl more ↦ (let w = in-contains xs n more in (suc w.0, omega (arith, w.1), w.2))
  | inr e ↦ (0, omega arith, sym e)
]

pub contains-in : (xs : List ℕ) (n : ℕ) → Contains xs n → Has (set_of xs) n
contains-in [] n w = absurd (omega (arith, w.1))
contains-in (x ∷ xs) n (zero, l, e) = (one-more x (set_of xs) n).1 (inr (sym e))
contains-in (x ∷ xs) n (suc k, l, e) =
    (one-more x (set_of xs) n).1 (inl (contains-in xs n (k, omega arith, e)))

-- the number at a place of the first of two lists is in the set of both
pub in-first-at : (xs ys : List ℕ) (n i : ℕ) → i < length xs → slice_index xs i ≡ n → Has (set_of (xs ++ ys)) n
in-first-at xs ys n i l e =
    contains-in (xs ++ ys) n (Contains-append_left xs ys n (i, l, get_or_default_zero xs i n l ∙ e))

-- a list with one more number has this one more
pub has-more : (xs ys : List ℕ) (n : ℕ) → ((m : ℕ) → Contains xs m ↔ (Contains ys m ⊎ (m ≡ n))) → (m : ℕ)
    → Has (set_of xs) m ↔ (Has (set_of ys) m ⊎ (m ≡ n))
has-more xs ys n more m = (
  (λ h. elim ((more m).0 (in-contains xs m h)) [ inl old ↦ inl (contains-in ys m old) | inr e ↦ inr e ]),
  (λ s. contains-in xs m ((more m).1 (elim s [ inl h ↦ inl (in-contains ys m h) | inr e ↦ inr e ]))),
)

-- all numbers of two lists are of a kind, where those of the first are
pub among-second : (xs ys : List ℕ) (kind : ℕ → Type 0) (b : Bool) → ((n : ℕ) → Contains xs n → kind n)
    → (IsTrue b ↔ ((n : ℕ) → Contains ys n → kind n)) → IsTrue b ↔ ((n : ℕ) → Has (set_of (xs ++ ys)) n → kind n)
among-second xs ys kind b first h = (
  (λ t n k. elim (Contains-append_cases xs ys n (in-contains (xs ++ ys) n k)) [
    | inl w ↦ first n w
    | inr w ↦ h.0 t n w
  ]),
  (λ f. h.1 (λ n w. f n (contains-in (xs ++ ys) n (Contains-append_right xs ys n w)))),
)

-- sets of the same numbers are one
pub same-set : (a b : ℕ) → ((n : ℕ) → Has a n → Has b n) → ((n : ℕ) → Has b n → Has a n) → a ≡ b
same-set a b to from = same_from_bits a b (λ n. elim (cases_eq (bit_at a n) 1) [
  | inl e ↦ e ∙ sym (to n e)
  | inr ne ↦ elim (cases_eq (bit_at b n) 1) [
    | inl e ↦ absurd (ne (from n e))
    | inr other ↦ omega (arith, bit_at-lt a n, bit_at-lt b n)
  ]
])

-- what look-ups are proved by
pub ruleset lookup_steps =
    (common_steps, contains-in, in-contains, in-first-at, Contains-append_left, Contains-append_right)
