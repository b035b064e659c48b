-- The names from elsewhere that the proofs of this crate cite, passed on from one place. Declares nothing.
pub use Rattle.std.proofs.Common.{Err, List, Ok, Result, [], ap, arith, drop, inl, inr, length, lit<, refl, rules, string_bytes, subst, suc, sym, take, tests, true, zero, ℕ, ◌++◌, ◌+◌, ◌<◌, ◌^◌, ◌∙◌, ◌∷◌, ◌≡◌, ◌≢◌, ◌≤◌}
pub use Rattle.std.proofs.lemmas.Bool.{and_parts, cases_lt, le-ltb, lt-ltb, ltb-true}
pub use Rattle.std.proofs.lemmas.Grind.{common_steps}
pub use Rattle.std.proofs.lemmas.Iterator.Consumers.{count_from_yields_List, nth_from_yields_List}
pub use Rattle.std.proofs.lemmas.Iterator.Search.{all_from_yields_List}
pub use Rattle.std.proofs.lemmas.Iterator.Splits.{YieldsList-from_str_split}
pub use Rattle.std.proofs.lemmas.List.{length-take, take_more}
pub use Rattle.std.proofs.lemmas.Str.Parse.{without_leading_plus_none}
pub use Rattle.std.specs.Borrow.{Bor}
pub use Rattle.std.specs.Char.{digit_value, is_digit}
pub use Rattle.std.specs.List.{list_all}
pub use Rattle.std.specs.Prelude.{IsErrAnd, MatchResult, Option, Some, if◌then◌else◌, option_map, slice_get, slice_index, ◌==◌}
pub use Rattle.std.specs.Result.{OkIff}
pub use Rattle.std.specs.Str.Parse.{AllDigits, IsNumeral, ParsesUnsigned, digits_value}
pub use Rattle.sf_calls.specs.Calls.{count_shown}
pub use Rattle.sf_calls.specs.Numbers.{are_digits, comma_parts, in_bits, is_number, number_of_part, read_number}
pub use Rattle.sf_calls.specs.Texts.{arguments_words}
pub use Rattle.sf_calls.specs.declared.numbers.Misread.{Misread}
pub use Rattle.sf_calls.specs.declared.numbers.Misread.TheVariants.{Width}
