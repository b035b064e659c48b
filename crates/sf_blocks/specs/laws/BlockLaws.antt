-- Lists in blocks of one width: where an element stands, and what one more block brings.
use Rattle.std.proofs.Common.{◌≡◌, ℕ, zero, suc, ◌+◌, ◌*◌, ◌<◌, List, [], ◌∷◌, ◌++◌, length, get_or, refl, sym, ap, ◌∙◌, arith, length-append}
use Rattle.std.proofs.lemmas.List.{get_or_append_left, get_or-append-add, append_assoc, append-nil}
use Rattle.std.specs.List.{AllZip}
use Rattle.sf_blocks.specs.Blocks.{joined_by, AreWideBy}

module _ {B T : Type 0} (items : B → List T) (width : ℕ) where
  -- where all blocks have this width, the first has it, and so have all the others
  pub first-wide : (b : B) (bs : List B) → AreWideBy items width (b ∷ bs) → length (items b) ≡ width
  first-wide b bs w = w 0 b (omega arith)

  pub rest-wide : (b : B) (bs : List B) → AreWideBy items width (b ∷ bs) → AreWideBy items width bs
  rest-wide b bs w = λ k d h. w (suc k) d (omega (arith, h))

  -- how many elements the blocks have together
  pub length-joined : (bs : List B) → AreWideBy items width bs → length (joined_by items bs) ≡ width * length bs
  length-joined [] w = omega arith
  length-joined (b ∷ bs) w = omega (
    arith,
    length-append (items b) (joined_by items bs),
    length-joined bs (rest-wide b bs w),
    first-wide b bs w,
  )

  -- an element is one of its block
  pub joined-at : (bs : List B) (q r : ℕ) (b : B) (d : T) → AreWideBy items width bs → q < length bs → r < width
      → get_or (joined_by items bs) (width * q + r) d ≡ get_or (items (get_or bs q b)) r d
  joined-at [] q r e d w h l = absurd (omega arith)
  joined-at (b ∷ bs) zero r e d w h l =
      let i : width * 0 + r ≡ r = omega arith in
      rw i (get_or_append_left (items b) (joined_by items bs) d r (omega (arith, first-wide b bs w)))
  joined-at (b ∷ bs) (suc q) r e d w h l =
      let i : width * suc q + r ≡ length (items b) + (width * q + r) = omega (arith, first-wide b bs w) in
      rw i (get_or-append-add (items b) (joined_by items bs) (width * q + r) d
      ∙ joined-at bs q r e d (rest-wide b bs w) (omega arith) l)

module _ {B T : Type 0} (items : B → List T) where
  -- one more block brings its elements
  pub joined-push : (bs : List B) (b : B) → joined_by items (bs ++ b ∷ []) ≡ joined_by items bs ++ items b
  joined-push [] b = append-nil (items b)
  joined-push (a ∷ bs) b = rw (joined-push bs b) (sym (append_assoc (items a) (joined_by items bs) (items b)))

  -- blocks with the same elements, one by one, have the same elements together, and are as wide
  pub joined-same : (xs ys : List B) → AllZip (λ c d. items d ≡ items c) xs ys → joined_by items ys ≡ joined_by items xs
  joined-same [] [] z = refl
  joined-same [] (y ∷ ys) z = absurd z
  joined-same (x ∷ xs) [] z = absurd z
  joined-same (x ∷ xs) (y ∷ ys) z = rw (z.0, joined-same xs ys z.1) refl

  pub AreWide-same : (width : ℕ) (xs ys : List B) → AllZip (λ c d. items d ≡ items c) xs ys
      → AreWideBy items width xs → AreWideBy items width ys
  AreWide-same width [] [] z w = w
  AreWide-same width [] (y ∷ ys) z w = absurd z
  AreWide-same width (x ∷ xs) [] z w = absurd z
  AreWide-same width (x ∷ xs) (y ∷ ys) z w = λ k. elim k as (λ k. (d : B) → k < length (y ∷ ys)
      → length (items (get_or (y ∷ ys) k d)) ≡ width) [
        | zero ↦ λ d h. ap length z.0 ∙ first-wide items width x xs w
        | suc k ↦ λ d h. AreWide-same width xs ys z.1 (rest-wide items width x xs w) k d (omega (arith, h))
      ]
