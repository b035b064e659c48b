-- How a stranger's text is shown on a terminal.
use Rattle.std.specs.Prelude.{ℕ, ◌-◌, ◌^◌, Bool, false, ◌==◌, ◌&&◌, ◌||◌, nat_le, nat_lt, if◌then◌else◌, List, [], ◌∷◌, chars, encode_utf8, flat_map}
use Rattle.std.specs.Fmt.{digits, format_spec, padded_integral}

-- a number from the lowest to the highest
abbrev pub is_within : ℕ → ℕ → ℕ → Bool
is_within low high n = nat_le low n && nat_le n high

-- A character that is not shown as it is: a control character, one without a width, a mark of the direction of
-- writing, the end of a line or paragraph, the mark of the byte order, a mark of a note, or a tag.
abbrev pub is_hidden : ℕ → Bool
is_hidden c =
    nat_lt c 0x20 || is_within 0x7F 0x9F c || c == 0xAD || c == 0x61C || c == 0x180E
    || is_within 0x200B 0x200F c || is_within 0x2028 0x202E c || is_within 0x2060 0x206F c
    || c == 0xFEFF || is_within 0xFFF9 0xFFFB c || is_within 0xE0000 0xE007F c

-- a byte as its number: `\x` and two hexadecimal digits, as std makes them of the format {byte:02x}
abbrev pub numbered : ℕ → List ℕ
numbered byte = 92 ∷ 120 ∷ padded_integral (format_spec 32 0 4 2 (2 ^ 64 - 1)) false [] (digits 16 false byte)

-- a character as it is shown
abbrev pub shown : ℕ → List ℕ
shown c = if is_hidden c then flat_map numbered (encode_utf8 c) else encode_utf8 c

-- a text as it is shown, from its bytes
abbrev pub visible : List ℕ → List ℕ
visible text = flat_map shown (chars text)
