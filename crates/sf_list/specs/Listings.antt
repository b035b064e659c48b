-- What a listing of a stack shows, and its text.
use Rattle.std.specs.Prelude.{ℕ, List, [], ◌∷◌, ◌++◌, codes, Option, Some, None}
use Rattle.std.specs.Fmt.{decimal}
use Rattle.sf_check.specs.declared.insn.Insn.{Insn}
use Rattle.sf_diagram.specs.Trees.{Tree}
use Rattle.sf_stack.specs.Texts.{line, filters_line}
use Rattle.sf_names.specs.Names.{NamesData}
use Rattle.sf_rows.specs.declared.subject.Subject.TheVariants as subject
use Rattle.sf_rows.specs.Trees.{IsAnswersTree}
use Rattle.sf_rows.specs.Shown.{CallRowData, IsShown, ShownData, shown_count}
use Rattle.sf_rows.specs.Lines.{digest_of, lines_of_rows}

-- the programs of a stack, and the rows that are shown
pub record Listed : Type 0 where
  pub programs : List (List Insn)
  pub shown : ShownData

-- What is shown is read off the tree of the answers of the stack. `calls` says how: None, each row by itself; else call
-- by call, for the calls that it names, or for all calls where it names none.
pub record IsListing (sets : List NamesData) (calls : Option (List (List ℕ))) (l : Listed) : Type 0 where
  pub tree : Tree
  pub answers : IsAnswersTree l.programs tree
  pub shown : IsShown calls subject.Stack tree sets l.shown

-- what a listing begins with, and the number of its form: of rows, or of calls
abbrev pub listing_title : Option (List CallRowData) → List ℕ
listing_title None = line (codes "seccomp_audit" ∷ codes "list" ∷ codes "2" ∷ [])
listing_title (Some rows) = line (codes "seccomp_audit" ∷ codes "calls" ∷ codes "2" ∷ [])

-- what is counted at the end: rows, or lines of calls
abbrev pub counted_words : Option (List CallRowData) → List ℕ
counted_words None = codes "rows"
counted_words (Some rows) = codes "lines"

-- how many lines show the rows
abbrev pub rows_total_line : ShownData → List ℕ
rows_total_line shown = line (codes "total" ∷ counted_words shown.calls ∷ decimal (shown_count shown) ∷ [])

-- the whole text, with the names of calls from these sets
abbrev pub listing_text : List NamesData → Listed → List ℕ
listing_text sets l = listing_title l.shown.calls ++ (filters_line l.programs
    ++ (lines_of_rows subject.Stack sets l.shown ++ rows_total_line l.shown))

-- the line of a digest: that of the rows that are shown each by itself
abbrev pub digest_line : Listed → List ℕ
digest_line l = line (codes "list" ∷ codes "2" ∷ codes "sha256" ∷ digest_of subject.Stack l.shown.rows ∷ [])
