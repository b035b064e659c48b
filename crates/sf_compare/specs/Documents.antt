-- A comparison as JSON. Each field is always there: one that doesn't apply is null.
use Rattle.std.specs.Prelude.{ℕ, List, [], ◌∷◌, Option, Some, None, codes}
use Rattle.serde_json.specs.Data.{Data, null, string}
use Rattle.sf_names.specs.Names.{NamesData}
use Rattle.sf_json.specs.Documents.{answer_document, count, diagram_document, fields, input_document, sizes_document}
use Rattle.sf_relations.specs.declared.examples.Example.{Example}
use Rattle.sf_compare.specs.Comparisons.{Compared}

-- the result for a relation, an example, and the answers of the old stack and of the new one to it
abbrev pub result_document : (result : List ℕ) → (example old new : Data) → Data
result_document result example old new = fields (
    (codes "example", example)
    ∷ (codes "new", new)
    ∷ (codes "old", old)
    ∷ (codes "result", string result) ∷ [])

-- what is found of a relation, and the example with the answers of the old stack and of the new one
abbrev pub change_document : List NamesData → Option Example → Data
change_document names None = result_document (codes "never") null null null
change_document names (Some e) =
    result_document (codes "found") (input_document names e.input) (answer_document e.before) (answer_document e.after)

-- a comparison: the sizes of both stacks, how many nodes the diagrams have, and what is found of each relation
abbrev pub comparison_document : List NamesData → Compared → Data
comparison_document names c = fields (
    (codes "diagram", diagram_document c.nodes)
    ∷ (codes "different", change_document names c.findings.different)
    ∷ (codes "looser", change_document names c.findings.looser)
    ∷ (codes "new", sizes_document c.new)
    ∷ (codes "old", sizes_document c.old)
    ∷ (codes "seccomp_audit", string (codes "compare"))
    ∷ (codes "tighter", change_document names c.findings.tighter)
    ∷ (codes "version", count 2) ∷ [])
