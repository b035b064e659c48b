-- What is known of the form of the command line, and of the numbers that a parse by it reads.
use Rattle.sf_command_line.proofs.Common.{◌≡◌, ◌&&◌, ◌<◌, ◌^◌, ℕ, List, Bool, true, false, refl, arith, Option, Result, Some, None, Ok, Err, not, unwrap_or, ParsesUnsigned, ReadsOne, Text, one_of, one_text, rows_of, Found, one_text-rows, IsOptionNumber}

-- where a conjunction of this form holds, its third setting is off
pub third_is_off : (a b c rest : Bool) → (a && (not b && (not c && rest))) ≡ true → c ≡ false
third_is_off a b false rest h = refl
third_is_off true false true rest h = cc
third_is_off true true true rest h = cc
third_is_off false b true rest h = cc

-- A number that was read from a text, in as many bits as it needs, or the usual one where there is no text, is that of
-- the option.
pub number_read : {E : Type 0} (gives : List ℕ → Result ℕ E → Type 0) (bits greatest usual : ℕ) (text : Option Text)
    (read : Option ℕ) → greatest < 2 ^ bits
    → (text ≡ None → read ≡ None)
    → ((t : Text) → text ≡ Some t → ReadsOne gives t read)
    → ((bs : List ℕ) (r : Result ℕ E) → gives bs r → ParsesUnsigned bits 10 bs r)
    → IsOptionNumber text greatest usual (unwrap_or read usual)
number_read gives bits greatest usual None read fits none some parses = rw (none refl) refl
number_read gives bits greatest usual (Some t) (Some n) fits none some parses =
    λ numeral positive small. (parses t (Ok n) (some t refl)).1
number_read gives bits greatest usual (Some t) None fits none some parses =
    λ numeral positive small. absurd (parses t (Err (some t refl).0) (some t refl).1 (
      numeral,
      omega (arith, small, fits),
    ))

-- a number that a parse found of an option, or the usual one, is that of the option
pub number_found : {E : Type 0} (gives : List ℕ → Result ℕ E → Type 0) (bits greatest usual : ℕ) (f : Found) (id : Text)
    (read : Option ℕ) → greatest < 2 ^ bits
    → (one_text f id ≡ None → read ≡ None)
    → ((t : Text) → one_text f id ≡ Some t → ReadsOne gives t read)
    → ((bs : List ℕ) (r : Result ℕ E) → gives bs r → ParsesUnsigned bits 10 bs r)
    → IsOptionNumber (one_of id (rows_of f)) greatest usual (unwrap_or read usual)
number_found gives bits greatest usual f id read fits none some parses =
    rw (← one_text-rows f id) (number_read gives bits greatest usual _ _ fits none some parses)
