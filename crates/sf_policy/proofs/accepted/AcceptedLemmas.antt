-- The lines that name questions, one more at a time.
use Rattle.sf_policy.proofs.Common.{common_steps, ◌≡◌, List, [], ◌∷◌, ℕ, ◌<◌, ◌≤◌, Bor, false, arith, get_or, length, map, refl, sym, take, true, slice_get, suc, zero, flat_map, list_all, lines, take-map, QuestionData, IsMisfitAt, is_name_once, line_fits, words_of_line, Some}

-- the lines that were read fit, and these are their names
pub record ReadSoFar (questions : List QuestionData) (read : List (Bor (List ℕ))) (names : List (List ℕ)) : Type 0 where
  pub fit : list_all (line_fits questions) (map (λ l. l.now) read) ≡ true
  pub all : names ≡ flat_map words_of_line (map (λ l. l.now) read)

-- the text at a place of a list of texts that are lent
text_at : (items : List (Bor (List ℕ))) (i : ℕ) (d : Bor (List ℕ)) → i < length items
    → slice_get (map (λ l. l.now) items) i ≡ Some (get_or items i d).now
text_at [] i d lt = absurd (omega (arith, lt))
text_at (x ∷ xs) zero d lt = refl
text_at (x ∷ xs) (suc i) d lt = text_at xs i d (omega (arith, lt))

-- the line at this place doesn't fit, and those before it do
pub first_misfit : (questions : List QuestionData) (text : List ℕ) (items : List (Bor (List ℕ))) (i : ℕ)
    (d : Bor (List ℕ)) (names : List (List ℕ)) → map (λ l. l.now) items ≡ lines text → i < length items
    → ReadSoFar questions (take i items) names → line_fits questions (get_or items i d).now ≡ false
    → IsMisfitAt questions text i
first_misfit questions text items i d names are lt so_far misfit = grind (arith, common_steps, take-map, text_at)

-- a line doesn't fit whose words are several
pub several_words : (questions : List QuestionData) (line : List ℕ) (words : List (Bor (List ℕ)))
    → map (λ w. w.now) words ≡ words_of_line line → 2 ≤ length words → line_fits questions line ≡ false
several_words questions line [] are many = absurd (omega (arith, many))
several_words questions line (w ∷ []) are many = absurd (omega (arith, many))
several_words questions line (v ∷ w ∷ ws) are many = rw (sym are) refl

-- a line doesn't fit whose first word isn't a name
pub other_word : (questions : List QuestionData) (line : List ℕ) (words : List (Bor (List ℕ))) (d : Bor (List ℕ))
    → map (λ w. w.now) words ≡ words_of_line line → 1 ≤ length words
    → is_name_once questions (get_or words 0 d).now ≡ false → line_fits questions line ≡ false
other_word questions line [] d are some other = absurd (omega (arith, some))
other_word questions line (w ∷ []) d are some other = rw (sym are) other
other_word questions line (v ∷ w ∷ ws) d are some other = rw (sym are) refl
