-- What is read off the diagrams of stacks, and written.
use Rattle.sf_command.proofs.Common.{◌≡◌, ℕ, Bool, List, Option, None, Bor, subst, sym, if◌then◌else◌, Appends, Data, Insn, NamesData, HoldStack, HasFiles, Filter, ListsFiles, is_digest, is_json, listing_output, ListingForm, IsListing, Listed}

-- what is written of the stack, with the calls by which rows are shown, is written of the files
pub lists : (holds : List ℕ → Option (List ℕ)) (paths : List (Bor (List ℕ))) (stack : List (List Insn))
    → HoldStack holds paths stack → (sets : List NamesData) (calls : Option (List (List ℕ))) (form : ListingForm)
    (version : List ℕ) (files : List Data) → HasFiles (is_json form) holds Filter paths files
    → (old new : Option (List ℕ)) (digest : Bool) → digest ≡ is_digest form
    → (found : Listed) × (found.programs ≡ stack) × IsListing sets (if digest then None else calls) found
    × Appends old new (listing_output form version files sets found)
    → ListsFiles version holds paths sets calls form old new
lists holds paths stack held sets calls form version files told old new digest is (found, same, listing, written) =
    record {
      found = found;
      stack = subst (λ (ps : List (List Insn)). HoldStack holds paths ps) (sym same) held;
      listing = subst (λ (b : Bool). IsListing sets (if b then None else calls) found) is listing;
      files = files;
      told = told;
      written = written;
    }
