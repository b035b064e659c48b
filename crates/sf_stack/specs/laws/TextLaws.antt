-- Texts that were added one after the other.
use Rattle.std.proofs.lemmas.Grind.{common_steps}
use Rattle.std.proofs.Common.{arith, ◌≡◌, ℕ, List, [], ◌++◌, append_assoc, ap, ◌∙◌}

-- two texts
pub added_two : (before middle after a b : List ℕ) → middle ≡ before ++ a → after ≡ middle ++ b
    → after ≡ before ++ (a ++ b)
added_two before middle after a b p q = q ∙ ap (λ l. l ++ b) p ∙ append_assoc before a b

-- three texts
pub added_three : (before first second after a b c : List ℕ) → first ≡ before ++ a → second ≡ first ++ b
    → after ≡ second ++ c → after ≡ before ++ (a ++ (b ++ c))
added_three before first second after a b c p q r = grind (arith, common_steps, added_two)

-- four texts
pub added_four : (before first second third after a b c d : List ℕ) → first ≡ before ++ a → second ≡ first ++ b
    → third ≡ second ++ c → after ≡ third ++ d → after ≡ before ++ (a ++ (b ++ (c ++ d)))
added_four before first second third after a b c d p q r s = search (arith, added_two, added_three)

-- four texts, added where nothing stood before
pub made_of_four : (before first second third after a b c d : List ℕ) → before ≡ [] → first ≡ before ++ a
    → second ≡ first ++ b → third ≡ second ++ c → after ≡ third ++ d → after ≡ a ++ (b ++ (c ++ d))
made_of_four before first second third after a b c d none p q r s = grind (arith, common_steps, added_four)
