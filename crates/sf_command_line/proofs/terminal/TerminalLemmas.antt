-- The characters of a text, one after the other, as they are shown.
use Rattle.sf_command_line.proofs.Common.{◌≡◌, ℕ, List, [], ◌++◌, length, ap, ◌∙◌, IsUtf8, chars, encode_utf8, flat_map, nil_from_length, chars-nil, chars_past_char, shown, visible}

-- nothing is shown of a text without bytes
pub visible_nothing : (text : List ℕ) → length text ≡ 0 → visible text ≡ []
visible_nothing text none = ap (flat_map shown) (ap chars (nil_from_length text none) ∙ chars-nil)

-- first the first character is shown, then the others
pub visible_first : (text rest : List ℕ) (c : ℕ) → IsUtf8 text → text ≡ encode_utf8 c ++ rest
    → visible text ≡ shown c ++ visible rest
visible_first text rest c utf8 parts = ap (flat_map shown) (chars_past_char text rest c utf8 parts)
