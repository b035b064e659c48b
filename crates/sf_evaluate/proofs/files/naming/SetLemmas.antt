-- The sets of files of names, joined one file after the other.
use Rattle.sf_evaluate.proofs.Common.{arith, common_steps, ◌≡◌, ◌⊎◌, inl, inr, ℕ, ◌+◌, ◌<◌, ◌∙◌, List, [], ◌∷◌, ◌++◌, ap, length, Option, Bor, refl, slice_get-get_or, subst, take, NamesData, AreSetsJoined, AreSetsUnfit, joined_append, unfit_append, Fault, of_names, AreNamesFiles, AreNamesRead, CannotBeJoined, IsFile, IsNamesFile, NamesFailed, RefusesNaming, RefusesSetsAt, all_sets, FileRead}
use Rattle.sf_names.specs.declared.fault.Fault.{Fault as NamesFault}
use Rattle.sf_names.specs.declared.fault.Fault.TheVariants as names_faults
use Rattle.sf_evaluate.specs.declared.files.identity.FileRole.TheVariants.{Names as NamesRole}
use Rattle.sf_evaluate.proofs.FailureLemmas.{path_at}
use Rattle.sf_evaluate.proofs.Pairing.{paired_more, parts_more}

module _ (holds : List ℕ → Option (List ℕ)) (paths : List (Bor (List ℕ))) (place : ℕ) (all sets : List NamesData)
    (so_far : AreNamesRead holds (take place paths) all) (inside : place < length paths)
    (meant : IsNamesFile (holds (path_at paths place).now) sets) where
  more_read : AreNamesFiles holds (take (place + 1) paths) (so_far.files ++ sets ∷ [])
  more_read = paired_more _ paths so_far.files place _ sets so_far.read inside meant

  more_sets : all_sets so_far.files ++ sets ≡ all_sets (so_far.files ++ sets ∷ [])
  more_sets = parts_more (λ (l : List NamesData). l) so_far.files sets _ _ refl refl

  -- the sets of one file more were joined
  pub one_named : (more : List NamesData) → AreSetsJoined all sets more
      → AreNamesRead holds (take (place + 1) paths) more
  one_named more joined = record {
    files = so_far.files ++ sets ∷ [];
    read = more_read;
    joined = subst (λ l. AreSetsJoined [] l more) more_sets
        (joined_append [] (all_sets so_far.files) sets all more so_far.joined joined);
  }

  -- the sets of one file more can't be joined
  unjoined : (joined : List NamesData) (why : NamesFault) (e : Fault) → e ≡ of_names why
      → AreSetsUnfit all sets joined why → CannotBeJoined holds paths e
  unjoined joined why e is unfit = record {
    count = place + 1;
    files = so_far.files ++ sets ∷ [];
    read = more_read;
    joined = joined;
    why = why;
    unfit = subst (λ l. AreSetsUnfit [] l joined why) more_sets
        (unfit_append [] (all_sets so_far.files) sets all joined why so_far.joined unfit);
    is = is;
  }

  -- then this file is named
  pub joining_named : (joined : List NamesData) (why : NamesFault) (e : Fault) → e ≡ of_names why
      → (why ≡ names_faults.Memory) ⊎ AreSetsUnfit all sets joined why → (named : Option FileRead)
      → IsFile NamesRole (path_at paths place).now named
      → NamesFailed NamesRole holds paths named (RefusesSetsAt holds paths e) e
  unfolding unjoined
  joining_named joined why e is (inl memory) named file = inl (is ∙ ap of_names memory)
  joining_named joined why e is (inr unfit) named file = inr (record {
    place = place;
    path = path_at paths place;
    at = slice_get-get_or paths place _ inside;
    why = (file, inr (inr (unjoined joined why e is unfit, refl)));
  })

-- what the file that failed is refused for
pub naming_why : (holds : List ℕ → Option (List ℕ)) (paths : List (Bor (List ℕ))) (named : Option FileRead) (e : Fault)
    → NamesFailed NamesRole holds paths named (RefusesSetsAt holds paths e) e → RefusesNaming holds paths e
naming_why holds paths named e why = grind (arith, common_steps)
