-- A listing as JSON.
use Rattle.std.specs.Prelude.{List, [], ◌∷◌, codes}
use Rattle.serde_json.specs.Data.{Data, string}
use Rattle.sf_json.specs.Documents.{count, fields, sizes_document}
use Rattle.sf_names.specs.Names.{NamesData}
use Rattle.sf_rows.specs.declared.subject.Subject.TheVariants as subject
use Rattle.sf_rows.specs.Documents.{with_rows}
use Rattle.sf_list.specs.Listings.{Listed}

-- a listing, with the names of calls from these sets: the size of the stack, and the rows
abbrev pub listing_document : List NamesData → Listed → Data
listing_document sets l = with_rows subject.Stack sets l.shown (fields (
    (codes "seccomp_audit", string (codes "list"))
    ∷ (codes "stack", sizes_document l.programs)
    ∷ (codes "version", count 2) ∷ []))
