-- Which filters of a stack are needed, as JSON. Each field is always there: one that doesn't apply is null.
use Rattle.std.specs.Prelude.{ℕ, ◌+◌, List, [], ◌∷◌, Option, Some, None, codes, count_by, length, map}
use Rattle.serde_json.specs.Data.{Data, null, string}
use Rattle.sf_json.specs.Documents.{count, diagram_document, fields, input_document, list_of, sizes_document}
use Rattle.sf_relations.specs.declared.examples.Example.{Example}
use Rattle.sf_needed.specs.Needs.{NeedsData}
use Rattle.sf_needed.specs.Texts.{is_needed, is_spare}

-- a filter's number, what was found of it, and an example
abbrev pub finding_object : (number : ℕ) → (result : List ℕ) → (example : Data) → Data
finding_object number result example = fields (
    (codes "example", example)
    ∷ (codes "number", count number)
    ∷ (codes "result", string result) ∷ [])

-- what was found of a filter
abbrev pub finding_document : ℕ → Option Example → Data
finding_document number (Some e) = finding_object number (codes "needed") (input_document [] e.input)
finding_document number None = finding_object number (codes "spare") null

-- what was found of filters, the first of which has this number
abbrev pub finding_documents : ℕ → List (Option Example) → List Data
finding_documents number [] = []
finding_documents number (finding ∷ findings) =
    finding_document number finding ∷ finding_documents (number + 1) findings

-- how many filters are kept, needed and spare
abbrev pub needed_totals_document : NeedsData → Data
needed_totals_document n = fields (
    (codes "kept", count (length n.kept))
    ∷ (codes "needed", count (count_by is_needed n.findings))
    ∷ (codes "spare", count (count_by is_spare n.findings)) ∷ [])

-- the size of the stack, how many nodes the diagrams have, what was found of each filter, the numbers of the filters
-- that are kept, and the totals
abbrev pub needs_document : NeedsData → Data
needs_document n = fields (
    (codes "diagram", diagram_document n.nodes)
    ∷ (codes "filters", list_of (finding_documents 1 n.findings))
    ∷ (codes "kept", list_of (map (λ p. count (p + 1)) n.kept))
    ∷ (codes "seccomp_audit", string (codes "needed"))
    ∷ (codes "stack", sizes_document n.stack)
    ∷ (codes "totals", needed_totals_document n)
    ∷ (codes "version", count 2) ∷ [])
