-- Keys that are compared letter by letter.
use Rattle.sf_profile.proofs.Common.{common_steps, nat_tests, arith, ◌≡◌, ◌==◌, ◌&&◌, ℕ, List, [], ◌∷◌, length, map, list_all, zip, to_ascii_lowercase, bytes_eq, folded, Bor, list_any, is_taken_for}
use Rattle.sf_profile.proofs.tree.TreeLemmas.{any_map}

pub letter_by_letter : (cs bs : List ℕ) → bytes_eq (map folded cs) (map to_ascii_lowercase bs)
    ≡ ((length cs == length bs) && list_all (λ p. folded p.0 == to_ascii_lowercase p.1) (zip cs bs))
letter_by_letter [] [] = grind (arith, common_steps, nat_tests)
letter_by_letter [] (b ∷ bs) = grind (arith, common_steps, nat_tests)
letter_by_letter (c ∷ cs) [] = grind (arith, common_steps, nat_tests)
letter_by_letter (c ∷ cs) (b ∷ bs) = grind (arith, common_steps, nat_tests, letter_by_letter cs bs)

pub any_known : (key : List ℕ) (known : List (Bor (List ℕ)))
    → list_any (is_taken_for key) (map (λ k. k.now) known) ≡ list_any (λ k. is_taken_for key k.now) known
any_known key known = any_map (λ (k : Bor (List ℕ)). k.now) (is_taken_for key) known
