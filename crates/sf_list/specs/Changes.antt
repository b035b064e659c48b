-- The rows of what changes from one stack to another, and their text.
use Rattle.std.specs.Prelude.{ℕ, List, [], ◌∷◌, ◌++◌, codes, Option, Some, None}
use Rattle.std.specs.Fmt.{decimal}
use Rattle.serde_json.specs.Data.{Data, string}
use Rattle.sf_check.specs.declared.insn.Insn.{Insn}
use Rattle.sf_diagram.specs.Trees.{Tree, value}
use Rattle.sf_stack.specs.Texts.{line}
use Rattle.sf_json.specs.Documents.{with_field}
use Rattle.sf_names.specs.Names.{NamesData}
use Rattle.sf_relations.specs.declared.relation.Relation.{Relation}
use Rattle.sf_relations.specs.declared.relation.Relation.TheVariants.{Looser, Tighter, Different, Pretended}
use Rattle.sf_compare.specs.Comparisons.{Compared, comparison_text}
use Rattle.sf_compare.specs.Documents.{comparison_document}
use Rattle.sf_rows.specs.declared.subject.Subject.TheVariants as subject
use Rattle.sf_rows.specs.Trees.{IsAnswersTree, IsTreeOf, change_number}
use Rattle.sf_rows.specs.Shown.{IsShown, ShownData, shown_count}
use Rattle.sf_rows.specs.Lines.{lines_of_rows}
use Rattle.sf_rows.specs.Documents.{with_rows}

-- the relation that the answers in the rows have, if only such are shown, and the rows
pub record ChangedData : Type 0 where
  pub only : Option Relation
  pub shown : ShownData

-- what is shown is read off the tree of what changes between the answers of two stacks
pub record AreChanges (old new : List (List Insn)) (sets : List NamesData) (calls : Option (List (List ℕ)))
    (x : ChangedData) : Type 0 where
  pub before : Tree
  pub after : Tree
  pub tree : Tree
  pub was : IsAnswersTree old before
  pub is : IsAnswersTree new after
  pub changed : IsTreeOf (λ bits. change_number x.only (value before bits) (value after bits)) tree
  pub shown_is : IsShown calls subject.Change tree sets x.shown

-- the word for the rows that are shown: the relation, or `changed` for all of them
abbrev pub shown_words : Option Relation → List ℕ
shown_words None = codes "changed"
shown_words (Some Looser) = codes "looser"
shown_words (Some Tighter) = codes "tighter"
shown_words (Some Different) = codes "different"
shown_words (Some Pretended) = codes "pretended"

-- how many lines show the rows
abbrev pub changed_line : ChangedData → List ℕ
changed_line x = line (codes "total" ∷ shown_words x.only ∷ decimal (shown_count x.shown) ∷ [])

-- the whole text: that of the comparison, and then the rows, with the names of calls from these sets
abbrev pub changed_text : List NamesData → Compared → ChangedData → List ℕ
changed_text sets c x = comparison_text c ++ (lines_of_rows subject.Change sets x.shown ++ changed_line x)

-- the document of a comparison with further fields: the word for the rows that are shown, and these
abbrev pub changed_document : List NamesData → Compared → ChangedData → Data
changed_document sets c x =
    with_rows subject.Change sets x.shown
    (with_field (codes "shown") (string (shown_words x.only)) (comparison_document sets c))
