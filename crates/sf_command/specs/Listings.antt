-- What `list` reads and writes.
use Rattle.std.specs.Prelude.{ℕ, Bool, true, false, if◌then◌else◌, List, Option, None}
use Rattle.sf_command.specs.Common.{Bor, Appends, Data, NamesData, document_line, IsListing, Listed, digest_line, listing_text, listing_document, HoldStack, HasFiles, identified, Filter, ListingForm, Json, Digest}
use Rattle.sf_command.specs.declared.listing.ListingForm.TheVariants.{Text}

-- this is the form of a digest
abbrev pub is_digest : ListingForm → Bool
is_digest Digest = true
is_digest _ = false

-- this is the form of a JSON document
abbrev pub is_json : ListingForm → Bool
is_json Json = true
is_json _ = false

-- a listing in each form: its text, with these sets of calls; the same as one JSON document, with the line of this
-- version and these documents of files; or the line of its digest
abbrev pub listing_output : ListingForm → (version : List ℕ) → (files : List Data) → List NamesData → Listed → List ℕ
listing_output Text version files sets found = listing_text sets found
listing_output Json version files sets found = document_line (identified version files (listing_document sets found))
listing_output Digest version files sets found = digest_line found

-- `list`: the files at the paths are read, and what their stack does is written, with these sets of calls, and by these
-- calls, but for a digest: it is that of all rows, each by itself
pub record ListsFiles (version : List ℕ) (holds : List ℕ → Option (List ℕ)) (paths : List (Bor (List ℕ)))
    (sets : List NamesData) (calls : Option (List (List ℕ))) (form : ListingForm) (old new : Option (List ℕ))
    : Type 0 where
  pub found : Listed
  pub stack : HoldStack holds paths found.programs
  pub listing : IsListing sets (if is_digest form then None else calls) found
  pub files : List Data
  pub told : HasFiles (is_json form) holds Filter paths files
  pub written : Appends old new (listing_output form version files sets found)
