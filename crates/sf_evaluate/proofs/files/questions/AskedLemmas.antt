-- The questions of policy files, one file after the other.
use Rattle.sf_evaluate.proofs.Common.{arith, common_steps, ◌≡◌, Bool, true, false, ℕ, ◌+◌, ◌<◌, ◌∙◌, List, [], ◌++◌, ◌∷◌, ap₂, length, Option, Bor, refl, take, QuestionData, Fault, AreAsked, IsPolicyFile, NamesFailed, RefusesAsking, RefusesPolicyFile, Data, AreOriginsOf, HasOrigins, PolicyData, FileRead, Policy}
use Rattle.sf_evaluate.proofs.FailureLemmas.{path_at}
use Rattle.sf_evaluate.proofs.Pairing.{paired_more, parts_more}

module _ (holds : List ℕ → Option (List ℕ)) (paths : List (Bor (List ℕ))) (place : ℕ)
    (all asked more : List QuestionData) (inside : place < length paths)
    (meant : IsPolicyFile (holds (path_at paths place).now) asked) (grown : more ≡ all ++ asked) where
  -- one file more was read
  pub one_asked : AreAsked holds (take place paths) all → AreAsked holds (take (place + 1) paths) more
  one_asked so_far = record {
    files = so_far.files ++ asked ∷ [];
    read = paired_more _ paths so_far.files place _ asked so_far.read inside meant;
    all = parts_more (λ (l : List QuestionData). l) so_far.files asked all more so_far.all grown;
  }

  -- and where its questions stand is there too, if it is asked for
  pub one_placed : (told : Bool) (origins added places : List Data)
      → (told ≡ true → AreOriginsOf (path_at paths place).now (length asked) added) → (told ≡ false → added ≡ [])
      → places ≡ origins ++ added → HasOrigins told holds (take place paths) all origins
      → HasOrigins told holds (take (place + 1) paths) more places
  one_placed true origins added places placed none joined so_far =
      let file : PolicyData = record { questions = asked; origins = added } in
      record {
        files = so_far.files ++ file ∷ [];
        read = paired_more _ paths so_far.files place _ file so_far.read inside
            (record { asked = meant; placed = placed refl });
        all = parts_more (λ (f : PolicyData). f.questions) so_far.files file all more so_far.all grown;
        places = parts_more (λ (f : PolicyData). f.origins) so_far.files file origins places so_far.places joined;
      }
  one_placed false origins added places placed none joined so_far = joined ∙ ap₂ (λ a b. a ++ b) so_far (none refl)

-- what the file that failed is refused for
pub asking_why : (holds : List ℕ → Option (List ℕ)) (paths : List (Bor (List ℕ))) (named : Option FileRead) (e : Fault)
    → NamesFailed Policy holds paths named (λ _ path. RefusesPolicyFile (holds path) e) e → RefusesAsking holds paths e
asking_why holds paths named e why = grind (arith, common_steps)
