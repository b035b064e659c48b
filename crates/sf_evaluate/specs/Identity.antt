-- What each JSON document says of where it comes from: the program, and the files that were read.
use Rattle.std.specs.Prelude.{◌≡◌, ◌++◌, ℕ, Bool, true, false, List, [], ◌∷◌, Option, codes, length}
use Rattle.sf_evaluate.specs.Common.{Bor, trim_end, encode_lower, sha256, Data, string, count, fields, list_of, with_field, FileRole, Names, Policy, Control, Accept, Groups, Filter, Old, New}
use Rattle.sf_evaluate.specs.Files.{AreKnownBytes}
use Rattle.sf_evaluate.specs.Pairs.{Pairwise}
use Rattle.sf_evaluate.specs.declared.files.identity.FileRole.TheVariants.{Profile}

-- what a file is called by what it was read as
abbrev pub role_name : FileRole → List ℕ
role_name Names = codes "names"
role_name Policy = codes "policy"
role_name Control = codes "control"
role_name Accept = codes "accept"
role_name Groups = codes "groups"
role_name Filter = codes "filter"
role_name Old = codes "old"
role_name New = codes "new"
role_name Profile = codes "profile"

-- a file: what it was read as, its path, how many bytes it has, and their SHA-256
abbrev pub file_document : FileRole → (path bytes : List ℕ) → Data
file_document role path bytes = fields (
    (codes "length", count (length bytes))
    ∷ (codes "path", string path)
    ∷ (codes "role", string (role_name role))
    ∷ (codes "sha256", string (encode_lower (sha256 bytes))) ∷ [])

-- the documents of the files at the paths, whose bytes may be known, path by path, if they are asked for; else none
abbrev pub HasFiles : (asked : Bool) → (List ℕ → Option (List ℕ)) → FileRole → List (Bor (List ℕ)) → List Data
    → Type 0
HasFiles true holds role paths documents = Pairwise (λ path d.
    (bytes : List ℕ) × AreKnownBytes (holds path.now) bytes × (d ≡ file_document role path.now bytes)) paths documents
HasFiles false holds role paths documents = documents ≡ []

-- the documents of two kinds of files, kind by kind, if they are asked for; else none
abbrev pub HasBothFiles : (asked : Bool) → (List ℕ → Option (List ℕ)) → (first second : FileRole)
    → (firsts seconds : List (Bor (List ℕ))) → List Data → Type 0
HasBothFiles asked holds first second firsts seconds documents =
    (some others : List Data) × HasFiles asked holds first firsts some × HasFiles asked holds second seconds others
    × (documents ≡ some ++ others)

-- a document with the line of the program's version, without white space at its end, and with the documents of files
abbrev pub identified : (version : List ℕ) → (files : List Data) → Data → Data
identified version files d =
    with_field (codes "program") (string (trim_end version)) (with_field (codes "files") (list_of files) d)
