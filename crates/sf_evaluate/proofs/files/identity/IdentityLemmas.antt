-- The documents of files that are read one after the other.
use Rattle.sf_evaluate.proofs.Common.{◌≡◌, Bool, true, false, ℕ, ◌+◌, ◌<◌, ◌∙◌, List, [], ◌∷◌, ◌++◌, ap, length, Option, Bor, refl, take, if◌then◌else◌, Data, AreKnownBytes, HasFiles, file_document, FileRole}
use Rattle.sf_evaluate.proofs.FailureLemmas.{path_at}
use Rattle.sf_evaluate.proofs.Pairing.{paired_more}

-- one file more was read, and its document is there too if it is asked for
pub one_shown : (asked : Bool) (holds : List ℕ → Option (List ℕ)) (role : FileRole) (paths : List (Bor (List ℕ)))
    (place : ℕ) (documents more : List Data) (bytes : List ℕ) → HasFiles asked holds role (take place paths) documents
    → place < length paths → AreKnownBytes (holds (path_at paths place).now) bytes
    → more ≡ documents ++ (if asked then file_document role (path_at paths place).now bytes ∷ [] else [])
    → HasFiles asked holds role (take (place + 1) paths) more
one_shown true holds role paths place documents more bytes so_far inside agrees added =
    rw added (paired_more _ paths documents place _ _ so_far inside (bytes, agrees, refl))
one_shown false holds role paths place documents more bytes none inside agrees added =
    added ∙ ap (λ (l : List Data). l ++ []) none
