-- The names in a text.
use Rattle.sf_evaluate.proofs.Common.{◌≡◌, false, [], ◌∷◌, refl, true≢false, ◌==◌, Text, comma_parts, names_in_text}
use Rattle.std.specs.Prelude.{length}

-- a text that isn't empty has the names between its commas
pub names_there : (text : Text) → (length text == 0) ≡ false → names_in_text text ≡ comma_parts text
names_there [] e = absurd (true≢false e)
names_there (b ∷ bs) e = refl
