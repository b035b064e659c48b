-- One file that is read by its path.
use Rattle.std.proofs.Common.{◌≡◌, ◌∙◌, ℕ, zero, suc, List, [], ◌∷◌, length, map, ap, refl, sym, arith}
use Rattle.std.specs.Prelude.{Option, Some, None, slice_get}
use Rattle.std.specs.Borrow.{Bor}
use Rattle.std.proofs.lemmas.Option.{slice_get_within}
use Rattle.sf_evaluate.specs.Files.{AreKnownBytes, AreRead, HasUnknown}

-- a list of one element has no other
pub only_one : {X : Type 0} (x y : X) (at : ℕ) → slice_get (x ∷ []) at ≡ Some y → x ≡ y
only_one x y zero e = cc
only_one x y (suc n) e = absurd (omega (arith, slice_get_within (x ∷ []) (suc n) y e))

-- a list of one element, by its length
pub one_of_one : {X : Type 0} (xs : List X) (x : X) → length xs ≡ 1 → slice_get xs 0 ≡ Some x → xs ≡ x ∷ []
one_of_one [] x one at = cc
one_of_one (y ∷ []) x one at = cc
one_of_one (y ∷ z ∷ rest) x one at = absurd (omega (arith, one))

-- the bytes that are read where some are known
pub known_is : (known : Option (List ℕ)) (bytes read : List ℕ) → known ≡ Some bytes → AreKnownBytes known read
    → read ≡ bytes
known_is None bytes read known are = cc
known_is (Some other) bytes read known are = cc

module _ (holds : List ℕ → Option (List ℕ)) (path bytes : List ℕ) (known : holds path ≡ Some bytes) where
  -- the files that are read at this path alone
  pub one_file : (paths : List (Bor (List ℕ))) (files : List (List ℕ)) → map (λ p. p.now) paths ≡ path ∷ []
      → AreRead holds paths files → files ≡ bytes ∷ []
  one_file [] files at read = cc
  one_file (b ∷ c ∷ rest) files at read = cc
  one_file (b ∷ []) files at read =
      let here : b.now ≡ path = cc in
      let (file, there, are) = read.each 0 b refl in
      one_of_one files bytes read.same
      (there ∙ ap (λ (f : List ℕ). Some f) (known_is (holds b.now) bytes file (ap holds here ∙ known) are))

  -- the file can be read
  pub none_unknown : (paths : List (Bor (List ℕ))) → map (λ p. p.now) paths ≡ path ∷ [] → HasUnknown holds paths → ⊥
  none_unknown [] at left = cc
  none_unknown (b ∷ c ∷ rest) at left = cc
  none_unknown (b ∷ []) at left =
      let here : b.now ≡ path = cc in
      let same : b ≡ left.path = only_one b left.path left.place left.at in
      let bytes_are : holds left.path.now ≡ Some bytes = ap (λ (p : Bor (List ℕ)). holds p.now) (sym same)
      ∙ ap holds here ∙ known in
      cc (bytes_are, left.why)
