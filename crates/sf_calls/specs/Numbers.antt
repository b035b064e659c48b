-- Numbers as a person writes them: decimal digits, or `0x` and hexadecimal digits.
use Rattle.std.specs.Prelude.{ℕ, ◌^◌, ◌&&◌, nat_eq, nat_le, nat_lt, ◌==◌, Bool, if◌then◌else◌, List, [], ◌∷◌, codes, drop, length, Option, Some, None, Result, Ok, Err, slice_get}
use Rattle.std.specs.Char.{is_digit}
use Rattle.std.specs.List.{list_all, slice_split, starts_with}
use Rattle.std.specs.Str.Parse.{digits_value}
use Rattle.sf_calls.specs.declared.numbers.Misread.{Misread}
use Rattle.sf_calls.specs.declared.numbers.Misread.TheVariants.{Form, Width}

-- the text begins with `0x`
abbrev pub is_hexadecimal : List ℕ → Bool
is_hexadecimal text = starts_with nat_eq text (codes "0x")

-- the digits of a number, without the `0x`
abbrev pub digits_of : List ℕ → List ℕ
digits_of text = if is_hexadecimal text then drop 2 text else text

-- the radix of these digits
abbrev pub radix_of : List ℕ → ℕ
radix_of text = if is_hexadecimal text then 16 else 10

-- one digit of the radix or more, and nothing else
abbrev pub are_digits : ℕ → List ℕ → Bool
are_digits radix digits = nat_lt 0 (length digits) && list_all (λ c. is_digit c radix) digits

-- the text is a number
abbrev pub is_number : List ℕ → Bool
is_number text = are_digits (radix_of text) (digits_of text)

-- the number that the text is
abbrev pub number_in_text : List ℕ → ℕ
number_in_text text = digits_value (radix_of text) (digits_of text)

-- the number, if it has so many bits at most
abbrev pub in_bits : ℕ → ℕ → Result ℕ Misread
in_bits bits n = if nat_lt n (2 ^ bits) then Ok n else Err Width

-- what is read of a text, where a number of so many bits at most is wanted
abbrev pub read_number : ℕ → List ℕ → Result ℕ Misread
read_number bits text = if is_number text then in_bits bits (number_in_text text) else Err Form

-- ---- the arguments of a call

-- the parts of a text between its commas
abbrev pub comma_parts : List ℕ → List (List ℕ)
comma_parts text = slice_split (λ b. b == 44) text

-- the text is one to six numbers with commas between them
abbrev pub are_arguments : List ℕ → Bool
are_arguments text = nat_le (length (comma_parts text)) 6 && list_all is_number (comma_parts text)

-- the number of a part; 0 where there is none
abbrev pub number_of_part : Option (List ℕ) → ℕ
number_of_part (Some part) = number_in_text part
number_of_part None = 0

-- the argument at a place, counted from 0; it is 0 where it isn't given
abbrev pub argument_at : List ℕ → ℕ → ℕ
argument_at text place = number_of_part (slice_get (comma_parts text) place)

-- the six arguments of a call
abbrev pub arguments_of : List ℕ → List ℕ
arguments_of text =
    argument_at text 0 ∷ argument_at text 1 ∷ argument_at text 2 ∷ argument_at text 3 ∷ argument_at text 4
    ∷ argument_at text 5 ∷ []

-- what is read of a text, where the arguments of a call are wanted, of 64 bits each
abbrev pub read_arguments : List ℕ → Result (List ℕ) Misread
read_arguments text =
    if are_arguments text
    then (if list_all (λ n. nat_lt n (2 ^ 64)) (arguments_of text) then Ok (arguments_of text) else Err Width)
    else Err Form
