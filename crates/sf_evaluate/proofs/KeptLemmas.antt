-- Files that are read one after the other, of which only the first ones are kept.
use Rattle.sf_evaluate.proofs.Common.{common_steps, ◌≡◌, ◌⊎◌, ℕ, ◌<◌, ◌≤◌, List, [], ◌∷◌, ◌++◌, length, length-append, take, Option, Bor, refl, sym, arith, ◌∙◌, ◌+◌, take-append-le, take_all, Fault, AreKeptFiles, AreKnownBytes, AreRead, HasUnknown, NamesFailed, FileRole, FileRead}
use Rattle.sf_stack.specs.declared.fault.Fault.TheVariants as faults
use Rattle.sf_evaluate.proofs.FailureLemmas.{path_at}
use Rattle.sf_evaluate.proofs.KeptFiles.{few_are_all, many_of_many}
use Rattle.sf_evaluate.proofs.Pairing.{paired_more}

-- where at most 64 files are kept, one more that is read is kept too
kept_more : (kept files : List (List ℕ)) (file : List ℕ) → kept ≡ take 65 files → length kept ≤ 64
    → kept ++ file ∷ [] ≡ take 65 (files ++ file ∷ [])
kept_more kept files file first few =
    let same = few_are_all kept files first few in
    let counted : length (files ++ file ∷ []) ≡ length files + 1 = length-append files (file ∷ []) in
    let short : length files ≡ length kept = rw same refl in
    rw same (sym (take_all 65 (files ++ file ∷ []) (omega (arith, counted, short, few))))

-- where more than 64 files are kept, one more that is read isn't kept
kept_no_more : (kept files : List (List ℕ)) (file : List ℕ) → kept ≡ take 65 files → 64 < length kept
    → kept ≡ take 65 (files ++ file ∷ [])
kept_no_more kept files file first many =
    first ∙ sym (take-append-le 65 files (file ∷ []) (many_of_many kept files first many))

module _ (holds : List ℕ → Option (List ℕ)) (paths : List (Bor (List ℕ))) (place : ℕ) (kept : List (List ℕ))
    (file : List ℕ) (so_far : AreKeptFiles holds (take place paths) kept) (inside : place < length paths)
    (agrees : AreKnownBytes (holds (path_at paths place).now) file) where
  one_more_read : AreRead holds (take (place + 1) paths) (so_far.files ++ file ∷ [])
  one_more_read = paired_more _ paths so_far.files place _ file so_far.read inside agrees

  -- where the one more is kept too
  pub one_kept : (more : List (List ℕ)) → more ≡ kept ++ file ∷ [] → length kept ≤ 64
      → AreKeptFiles holds (take (place + 1) paths) more
  one_kept more pushed few = grind (arith, common_steps, one_more_read, kept_more)

  -- where it isn't kept, since there were enough
  pub none_more_kept : 64 < length kept → AreKeptFiles holds (take (place + 1) paths) kept
  none_more_kept many = grind (arith, common_steps, one_more_read, kept_no_more)

-- a file can't be read, or memory ran out
pub unread : (holds : List ℕ → Option (List ℕ)) (role : FileRole) (paths : List (Bor (List ℕ)))
    (named : Option FileRead) (e : Fault) → NamesFailed role holds paths named (λ _ _. ⊥) e
    → ((e ≡ faults.Read) × HasUnknown holds paths) ⊎ (e ≡ faults.Memory)
unread holds role paths named e why = grind (arith, common_steps)
