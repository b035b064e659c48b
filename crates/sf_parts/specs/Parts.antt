-- The parts of a word: behind the numbers of a part comes the same. How the numbers of a part are written.
use Rattle.std.specs.Prelude.{ℕ, suc, ◌-◌, ◌/◌, ◌%◌, ◌^◌, ◌==◌, ◌&&◌, Bool, true, false, not, List, [], ◌∷◌, ◌++◌, length, map, bit_and, bit_or, nat_le, if◌then◌else◌}
use Rattle.std.specs.List.{list_any}
use Rattle.sf_diagram.specs.Trees.{Tree, Leaf, Fork}
use Rattle.sf_parts.specs.Words.{is_same_tree, test_count}
use Rattle.sf_parts.specs.Runs.{RunData, mask_in, runs_in}
use Rattle.sf_parts.specs.declared.form.Span.{Span}

-- numbers of a word: those that under the mask are in one of the spans, or, if these are what is left out, in none
pub record FormData : Type 0 where
  pub mask : ℕ
  pub without : Bool
  pub spans : List Span

abbrev pub is_in_span : ℕ → Span → Bool
is_in_span n s = nat_le s.first n && nat_le n s.last

-- whether a number is one of those that are written so
abbrev pub form_has : FormData → ℕ → Bool
form_has f n =
    if f.without then not (list_any (is_in_span (bit_and n f.mask)) f.spans)
    else list_any (is_in_span (bit_and n f.mask)) f.spans

-- a part: how its numbers are written, and what comes behind them
pub record PartData : Type 0 where
  pub form : FormData
  pub behind : Tree

-- the part whose numbers are, under a mask, from a first to a last one
abbrev pub span_part : ℕ → ℕ → ℕ → Tree → PartData
span_part mask first last t = record {
  form = record { mask = mask; without = false; spans = record { first = first; last = last } ∷ [] };
  behind = t;
}

-- the spans of the runs that lead to a tree, or of the others
abbrev pub spans_of : List RunData → Tree → Bool → List Span
spans_of [] t without = []
spans_of (r ∷ rest) t without =
    if (if without then not (is_same_tree r.behind t) else is_same_tree r.behind t)
    then record { first = r.first; last = r.last } ∷ spans_of rest t without
    else spans_of rest t without

-- the part of the runs that lead to a tree, or of what the others leave
abbrev pub part_in : ℕ → List RunData → Bool → Tree → PartData
part_in mask runs without t = record {
  form = record { mask = mask; without = without; spans = spans_of runs t without };
  behind = t;
}

-- what comes behind the longest run, the last one of several
abbrev pub longest_of : RunData → List RunData → Tree
longest_of best [] = best.behind
longest_of best (r ∷ rest) =
    longest_of (if nat_le (best.last - best.first) (r.last - r.first) then r else best) rest

abbrev pub rest_in : List RunData → Tree
rest_in [] = Leaf 0
rest_in (r ∷ rest) = longest_of r rest

-- what comes behind runs, and is not seen yet, each once
abbrev pub behinds_after : List Tree → List RunData → List Tree
behinds_after seen [] = []
behinds_after seen (r ∷ rest) =
    if list_any (is_same_tree r.behind) seen then behinds_after seen rest
    else r.behind ∷ behinds_after (seen ++ r.behind ∷ []) rest

-- a part for all runs that lead to one tree; the rest, to which the longest run leads, comes last as what they leave
abbrev pub joined_parts : ℕ → List RunData → List PartData
joined_parts mask runs =
    map (part_in mask runs false) (behinds_after (rest_in runs ∷ []) runs) ++ part_in mask runs true (rest_in runs) ∷ []

-- a number, and besides it the bit that a variable tests
abbrev pub with_bit : ℕ → ℕ → ℕ
with_bit number variable = bit_or number (2 ^ (31 - variable % 32))

-- the ways through a word, lower first: on each, the bits that are tested make one number
abbrev pub ways_from : ℕ → ℕ → ℕ → Tree → List PartData
ways_from word mask number (Leaf c) = span_part mask number number (Leaf c) ∷ []
ways_from word mask number (Fork variable lower higher) =
    if variable / 32 == word
    then ways_from word (with_bit mask variable) number lower
    ++ ways_from word (with_bit mask variable) (with_bit number variable) higher
    else span_part mask number number (Fork variable lower higher) ∷ []

-- The parts of a word. Where there are not more runs than ways, it is listed by runs: each by itself, or those joined
-- that lead to one tree. Else each way is a part.
abbrev pub parts_in : ℕ → Bool → Tree → List PartData
parts_in word apart t =
    if nat_le (length (runs_in word t)) (suc (test_count word t)) then (
    if apart then map (λ r. span_part (mask_in word t) r.first r.last r.behind) (runs_in word t)
    else joined_parts (mask_in word t) (runs_in word t)
    ) else ways_from word 0 0 t
