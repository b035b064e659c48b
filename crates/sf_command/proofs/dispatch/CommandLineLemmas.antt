-- What `clap` says of words that don't fit the form of the command line.
use Rattle.sf_command.proofs.Common.{◌≡◌, ◌≢◌, ◌⊎◌, ◌≤◌, ◌∙◌, ap, codes, true, false, inl, inr, ℕ, Bool, List, [], Result, Ok, Err, arith, subst, sym, ◌==◌, IfOk, if◌then◌else◌, nat_lt, Appends, HasKind, IsAmong, Kinds, Row, Text, kind_of, Error, DisplayVersion, OutOfMemory, IsKnown, errors_at, subcommand_at, known_subcommand, TooLarge, TooManyRows, Write, fault_number, fault_status, Other, Profile, profile_words_fit, HasWrongWord, Helps, IsHelp, IsTooLarge, RefusesAs, RefusesAsAsked, RefusesWords, WritesText, words_fit_for, RunsAs}
use Rattle.std.specs.Prelude.{Option}
use Rattle.sf_profile.specs.Faults.{fault_number as profile_number}
use Rattle.sf_profile.specs.declared.fault.Fault.{Fault as ProfileFault}
use Rattle.sf_profile.specs.declared.fault.Fault.TheVariants as profile_faults
use Rattle.sf_evaluate.specs.declared.fault.Fault.{Fault}

-- an answer to a call for help or for the version is what the words ask for
pub helps : (version : Text) (words : List Text) (e : Error) (status : ℕ) (old new : Option Text)
    → HasKind (errors_at words) e
    → IsHelp (kind_of e) × (status ≡ 0) × WritesText old new × (kind_of e ≡ DisplayVersion → Appends old new version)
    → Helps version words status old new
helps version words e status old new (inr among) done = record {
  kind = kind_of e;
  error = among;
  help = done.0;
  status_is = done.1;
  written = done.2;
  line = done.3;
}
helps version words e status old new (inl memory) (inl help, status_is, written, line) = cc
helps version words e status old new (inl memory) (inr shown, status_is, written, line) = cc

-- where an error isn't refused memory, the words don't fit the form
pub some_error : (words : List Text) (e : Error) → HasKind (errors_at words) e → kind_of e ≢ OutOfMemory
    → ¬ (errors_at words ≡ [])
some_error words e (inl memory) other none = other memory
some_error words e (inr among) other none = subst (λ (ks : Kinds). IsAmong (kind_of e) ks) none among

-- words for which `profile` or `eval` ended with status 4, or for which no subcommand is known, are refused
pub refused_words : (words : List Text) (named : Option (Text × List Row)) → named ≡ subcommand_at words
    → (¬ IsKnown named) ⊎ HasWrongWord named → RefusesWords words
refused_words words named entered (inl unknown) = inl (λ fits.
    let (found, at, known) = known_subcommand words fits in unknown (found, entered ∙ at, known))
refused_words words named entered (inr (found, at, wrong)) = inr (found, sym entered ∙ at, wrong)

-- a run of `profile` or `eval` that ended with another status than 4 did what it says
pub profile_ran : (W : Type 0) (r : Result ℕ Fault) → IfOk r (λ s. (s ≡ 0) ⊎ (s ≡ 4)) → IfOk r (λ s. s ≡ 0 → W)
    → IfOk r (λ s. s ≤ 2 → (s ≡ 0) × W)
profile_ran W (Ok s) (inl zero) done = λ small. (zero, done zero)
profile_ran W (Ok s) (inr four) done = λ small. absurd (omega (arith, four, small))
profile_ran W (Err e) status done = tt

-- words of `profile` that don't fit are words that don't fit their subcommand
pub profile_words : (name : Text) (rows : List Row) → name ≡ codes "profile" → profile_words_fit rows ≡ false
    → words_fit_for name rows ≡ false
profile_words name rows is wrong = rw is wrong

-- what was done as a subcommand asks for, was done as the words ask for that name it
pub done_as : (version : Text) (holds : Text → Option Text) (found named : Option (Text × List Row)) (status : ℕ)
    (old new : Option Text) → named ≡ found → RunsAs version holds found status old new
    → RunsAs version holds named status old new
done_as version holds found named status old new is done =
    subst (λ n. RunsAs version holds n status old new) (sym is) done

-- what is refused for a subcommand, is refused for the words that name it
pub refused_as : (holds : Text → Option Text) (found named : Option (Text × List Row)) (e : Fault) → named ≡ found
    → RefusesAs holds found e → RefusesAs holds named e
refused_as holds found named e is why = subst (λ n. RefusesAs holds n e) (sym is) why

-- no fault has the status of a command line that is refused
pub no_usage : (number : ℕ) → fault_status number ≡ 4 → ⊥
no_usage number four = by (number == 32) (nat_lt number 50) four
  where
    by : (large low : Bool) → ◌≡◌ {A = ℕ} (if large then 2 else if low then 3 else 5) 4 → ⊥
    by true low same = omega (arith, same)
    by false true same = omega (arith, same)
    by false false same = omega (arith, same)

-- no refusal of a profile has a status up to 2
profile_status : (refusal : ProfileFault) → fault_status (profile_number refusal) ≤ 2 → ⊥
profile_status profile_faults.Memory small = omega (arith, small)
profile_status refusal small = omega (arith, small)

-- where the status of a fault is at most 2, nodes or rows are too many, and nothing was written
pub too_large : (holds : Text → Option Text) (words : List Text) (e : Fault) (status : ℕ) (Same : Type 0)
    → RefusesAsAsked holds words e → status ≡ fault_status (fault_number e) → (e ≡ Other Write) ⊎ Same → status ≤ 2
    → (status ≡ 2) × Same × IsTooLarge holds words
too_large holds words e status Same _ is (inl write) small =
    let five : status ≡ fault_status (fault_number (Other Write)) = is
    ∙ ap (λ (f : Fault). fault_status (fault_number f)) write in
    absurd (omega (arith, five, small))
too_large holds words (Profile refusal) status Same _ is (inr same) small =
    absurd (profile_status refusal (subst (λ (s : ℕ). s ≤ 2) is small))
too_large holds words (Other (TooLarge nodes)) status Same why is (inr same) small = (is, same, inl (nodes, why))
too_large holds words (Other TooManyRows) status Same why is (inr same) small = (is, same, inr why)
too_large holds words (Other fault) status Same _ is (inr same) small = absurd (omega (arith, is, small))
