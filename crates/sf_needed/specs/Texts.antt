-- The text that tells which filters of a stack are needed.
use Rattle.std.specs.Prelude.{ℕ, ◌+◌, Bool, true, false, List, [], ◌∷◌, ◌++◌, Option, Some, None, codes, count_by, flat_map, length}
use Rattle.std.specs.Fmt.{decimal}
use Rattle.sf_stack.specs.Texts.{hex_text, line, nodes_line, filters_line}
use Rattle.sf_relations.specs.declared.examples.Example.{Example}
use Rattle.sf_needed.specs.Needs.{NeedsData}

-- some input gets further without the filter
abbrev pub is_needed : Option Example → Bool
is_needed (Some e) = true
is_needed None = false

-- no input gets further without the filter
abbrev pub is_spare : Option Example → Bool
is_spare (Some e) = false
is_spare None = true

-- what each such text begins with, and the number of its form
abbrev pub needed_title_line : List ℕ
needed_title_line = line (codes "seccomp_audit" ∷ codes "needed" ∷ codes "2" ∷ [])

-- the lines above those of the filters
abbrev pub needed_head_text : NeedsData → List ℕ
needed_head_text n = needed_title_line ++ (filters_line n.stack ++ nodes_line n.nodes)

-- a filter's number and what was found of it, with the example where it is needed
abbrev pub finding_line : ℕ → Option Example → List ℕ
finding_line number (Some e) =
    line (codes "filter" ∷ decimal number ∷ codes "needed" ∷ hex_text e.input ∷ [])
finding_line number None = line (codes "filter" ∷ decimal number ∷ codes "spare" ∷ [])

-- a line for each filter, the first of them with this number
abbrev pub finding_lines : ℕ → List (Option Example) → List ℕ
finding_lines number [] = []
finding_lines number (finding ∷ findings) = finding_line number finding ++ finding_lines (number + 1) findings

-- the numbers of the filters at these places, each after a blank; a dash where there are none
abbrev pub kept_words : List ℕ → List ℕ
kept_words [] = codes " -"
kept_words (place ∷ places) = flat_map (λ p. 32 ∷ decimal (p + 1)) (place ∷ places)

-- the line of the filters that are kept
abbrev pub kept_line : List ℕ → List ℕ
kept_line kept = codes "kept" ++ (kept_words kept ++ 10 ∷ [])

-- how many filters are needed, spare and kept
abbrev pub needed_total_line : NeedsData → List ℕ
needed_total_line n =
    line (codes "total" ∷ codes "needed" ∷ decimal (count_by is_needed n.findings) ∷ codes "spare"
    ∷ decimal (count_by is_spare n.findings) ∷ codes "kept" ∷ decimal (length n.kept) ∷ [])

-- the whole text
abbrev pub needs_text : NeedsData → List ℕ
needs_text n = needed_head_text n ++ (finding_lines 1 n.findings ++ (kept_line n.kept ++ needed_total_line n))
