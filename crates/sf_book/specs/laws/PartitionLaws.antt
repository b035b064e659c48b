-- A lawful book is a partition, place by place: each input lies in exactly one piece, and no name begins another. This
-- follows from what a count of one, or of at most one, says of the places of a list.
use Rattle.std.proofs.Common.{◌≡◌, ℕ, zero, suc, ◌+◌, ◌≤◌, Bool, true, false, List, [], ◌∷◌, ◌++◌, map, Some, refl, ◌∙◌, ap, arith}
use Rattle.sf_book.specs.Common.{slice_get, sum_by, Input, IsInput, PieceData, is_member, is_prefix}
use Rattle.std.proofs.lemmas.List.Folds.{fold-map}
use Rattle.std.proofs.lemmas.List.Sums.{sum_by-cons, sum_by-append}
use Rattle.std.proofs.lemmas.Option.{same_Some}
use Rattle.sf_book.specs.Books.{OutstandingData, RegionData, BookData, IsLawfulBook}
use Rattle.sf_book.specs.PrefixCounts.{bit}
use Rattle.sf_book.specs.Partition.{parts_of, names_of, LiesInOne, NoneBeginsAnother}

module _ {A : Type 0} (p : A → Bool) where
  -- where the count is 0 there is none
  none_there : (xs : List A) → sum_by (λ x. bit (p x)) xs ≡ 0 → (j : ℕ) (y : A) → slice_get xs j ≡ Some y
      → p y ≡ true → ⊥
  none_there [] zeros j y at hit = cc
  none_there (x ∷ xs) zeros zero y at hit =
      absurd (omega (arith, sum_by-cons (λ x. bit (p x)) x xs, ap (λ k. bit (p k)) (same_Some x y at) ∙ ap bit hit))
  none_there (x ∷ xs) zeros (suc j) y at hit =
      none_there xs (omega (arith, sum_by-cons (λ x. bit (p x)) x xs)) j y at hit

  -- where the count is at most 1 there is no second one
  pub no_second : (xs : List A) → sum_by (λ x. bit (p x)) xs ≤ 1 → (i j : ℕ) (x y : A) → slice_get xs i ≡ Some x
      → slice_get xs j ≡ Some y → p x ≡ true → p y ≡ true → i ≡ j
  no_second [] few i j x y at at' hit hit' = cc
  no_second (z ∷ xs) few zero zero x y at at' hit hit' = refl
  no_second (z ∷ xs) few zero (suc j) x y at at' hit hit' =
      let all = sum_by-cons (λ x. bit (p x)) z xs in
      let one : bit (p z) ≡ 1 = ap (λ k. bit (p k)) (same_Some z x at) ∙ ap bit hit in
      absurd (none_there xs (omega arith) j y at' hit')
  no_second (z ∷ xs) few (suc i) zero x y at at' hit hit' =
      let all = sum_by-cons (λ x. bit (p x)) z xs in
      let one : bit (p z) ≡ 1 = ap (λ k. bit (p k)) (same_Some z y at') ∙ ap bit hit' in
      absurd (none_there xs (omega arith) i x at hit)
  no_second (z ∷ xs) few (suc i) (suc j) x y at at' hit hit' =
      ap suc (no_second xs (omega (arith, sum_by-cons (λ x. bit (p x)) z xs)) i j x y at at' hit hit')

  -- where the count is not 0 there is one
  pub some_there : (xs : List A) → 1 ≤ sum_by (λ x. bit (p x)) xs → (i : ℕ) × (x : A)
      × (slice_get xs i ≡ Some x) × (p x ≡ true)
  some_there [] some = absurd (omega arith)
  some_there (x ∷ xs) some = by (p x) refl (λ k. some_there xs k)
    where
      by : (b : Bool) → p x ≡ b → (1 ≤ sum_by (λ x. bit (p x)) xs → (i : ℕ) × (y : A) × (slice_get xs i ≡ Some y)
          × (p y ≡ true)) → (i : ℕ) × (y : A) × (slice_get (x ∷ xs) i ≡ Some y) × (p y ≡ true)
      by true is rest = (zero, x, refl, is)
      by false is rest =
          let all = sum_by-cons (λ x. bit (p x)) x xs in
          let none : bit (p x) ≡ 0 = ap bit is in
          let r = rest (omega arith) in
          (suc r.0, r.1, r.2, r.3)

pub sum_by-map : {A B : Type 0} (f : B → ℕ) (g : A → B) (xs : List A) → sum_by f (map g xs) ≡ sum_by (λ x. f (g x)) xs
sum_by-map f g xs = fold-map (λ a x. a + f x) g 0 xs

-- each input lies in exactly one outstanding piece or region of a lawful book
pub lies_in_one : (b : BookData) → IsLawfulBook b → (d : Input) → IsInput d → LiesInOne (parts_of b) d
lies_in_one b h d n =
    let es = map (λ (e : OutstandingData). e.piece) b.outstanding in
    let rs = map (λ (r : RegionData). r.piece) b.regions in
    let one : sum_by (λ (p : PieceData). bit (is_member p d)) (es ++ rs) ≡ 1 =
    simp (sum_by-append, sum_by-map) (omega (arith, h.one d n)) in
    let r = some_there (λ p. is_member p d) (es ++ rs) (omega arith) in
    record {
      place = r.0;
      piece = r.1;
      there = r.2;
      member = r.3;
      only = λ i p at hit. no_second (λ p. is_member p d) (es ++ rs) (omega arith) i r.0 p r.1 at r.2 hit r.3;
    }

-- each list begins with itself
pub prefix-refl : (n : List Bool) → is_prefix n n ≡ true
prefix-refl [] = refl
prefix-refl (true ∷ bs) = prefix-refl bs
prefix-refl (false ∷ bs) = prefix-refl bs

-- no name of a lawful book begins another
pub none_begins_another : (b : BookData) → IsLawfulBook b → NoneBeginsAnother (names_of b)
none_begins_another b h = record {
  one_place = λ i j m n at at' begins.
      let es = map (λ (e : OutstandingData). e.piece.name) b.outstanding in
      let rs = map (λ (r : RegionData). r.name) b.regions in
      let few : sum_by (λ (k : List Bool). bit (is_prefix k n)) (es ++ rs ++ b.emptied) ≤ 1 =
      simp (sum_by-append, sum_by-map) (omega (arith, h.apart n)) in
      no_second (λ k. is_prefix k n) (es ++ rs ++ b.emptied) few i j m n at at' begins (prefix-refl n);
}
