-- What `check p.bpf` says where the bytes of that file spell a filter.
use Rattle.std.proofs.Common.{◌≡◌, ◌∙◌, ◌⊎◌, ◌≤◌, ◌++◌, ℕ, zero, suc, Bool, true, false, List, [], ◌∷◌, map, ap, refl, subst, codes, inl, inr, arith}
use Rattle.std.specs.Prelude.{Option, Some}
use Rattle.std.specs.Borrow.{Bor}
use Rattle.clap.specs.Words.{Text}
use Rattle.serde_json.specs.Data.{Data}
use Rattle.sf_check.specs.declared.insn.Insn.{Insn}
use Rattle.sf_stack.specs.declared.fault.Fault.{Fault as OtherFault}
use Rattle.sf_stack.specs.declared.fault.Fault.TheVariants.{Memory, TooLarge, TooManyRows, Write}
use Rattle.sf_stack.specs.Filters.{IsFirstRefusal, SpellPrograms, SpellStack}
use Rattle.sf_evaluate.specs.Faults.{fault_number}
use Rattle.sf_evaluate.specs.Outputs.{IsCheckOutput, RefusesCheck}
use Rattle.sf_evaluate.specs.Status.{fault_status}
use Rattle.sf_trace.specs.Texts.{IsCheckText}
use Rattle.sf_evaluate.specs.declared.fault.Fault.{Fault}
use Rattle.sf_evaluate.specs.declared.fault.Fault.TheVariants.{Other}
use Rattle.sf_command.specs.Runs.{DoesAsAsked, IsTooLarge, RefusesAsAsked, RefusesWords, meant_words}
use Rattle.sf_evaluate.specs.Words.{words_fit_for}
use Rattle.sf_command.specs.Subcommands.{Checks}
use Rattle.command_run.specs.Lines.{IsDone, check_words}
use Rattle.command_run.proofs.FileLemmas.{none_unknown, one_file}
use Rattle.command_run.proofs.WordLemmas.{alone, check_fits, check_read, no_error, other_name}

-- neither instructions nor JSON were asked for
plain_text : (listed json : Bool) (version : Text) (documents : List Data) (stack : List (List Insn)) (text : Text)
    → listed ≡ false → json ≡ false → IsCheckOutput listed json version documents stack text
    → IsCheckText false stack text
plain_text false false version documents stack text off plain told = told
plain_text true json version documents stack text off plain told = cc
plain_text false true version documents stack text off plain told = cc

-- the ways in which the program ends
ends : (status : ℕ) → status ≤ 5 → (status ≤ 2) ⊎ ((status ≡ 3) ⊎ ((status ≡ 4) ⊎ (status ≡ 5)))
ends zero few = inl (omega arith)
ends (suc zero) few = inl (omega arith)
ends (suc (suc zero)) few = inl (omega arith)
ends (suc (suc (suc zero))) few = inr (inl (omega arith))
ends (suc (suc (suc (suc zero)))) few = inr (inr (inl (omega arith)))
ends (suc (suc (suc (suc (suc zero))))) few = inr (inr (inr (omega arith)))
ends (suc (suc (suc (suc (suc (suc n)))))) few = absurd (omega (arith, few))

-- the words fit
not_refused : RefusesWords check_words → ⊥
not_refused (inl wrong) = wrong check_fits
not_refused (inr (found, at, wrong)) =
    let e : words_fit_for (codes "check") found.1 ≡ false = subst (λ (name : Text).
    words_fit_for name found.1 ≡ false) (check_read found at).name wrong in
    cc e

module _ (holds : Text → Option Text) (bytes : Text) (program : List Insn) (known : holds (codes "p.bpf") ≡ Some bytes)
    (spelled : SpellStack (bytes ∷ []) (program ∷ []))
    (accepted : (files : List Text) (e : OtherFault) (programs : List (List Insn)) → IsFirstRefusal files e
    → SpellStack files programs → ⊥)
    (version text : Text) (told : IsCheckText false (program ∷ []) text)
    (one_stack : (files : List Text) (a b : List (List Insn)) → SpellPrograms files a → SpellPrograms files b → a ≡ b)
    (one_text : (listed : Bool) (programs : List (List Insn)) (a b : Text) → IsCheckText listed programs a
    → IsCheckText listed programs b → a ≡ b) where
  check_fails : (paths : List (Bor Text)) (e : OtherFault) → map (λ p. p.now) paths ≡ codes "p.bpf" ∷ []
      → RefusesCheck holds paths e → (e ≡ Memory) ⊎ (e ≡ Write)
  check_fails paths e at (inl write) = inr write
  check_fails paths e at (inr (inl (read, left))) =
      absurd (none_unknown holds (codes "p.bpf") bytes known paths at left)
  check_fails paths e at (inr (inr (inl memory))) = inl memory
  check_fails paths e at (inr (inr (inr (files, read, first)))) =
      let same : files ≡ bytes ∷ [] = one_file holds (codes "p.bpf") bytes known paths files at read in
      absurd (accepted (bytes ∷ []) e (program ∷ []) (subst (λ (fs : List Text). IsFirstRefusal fs e) same first)
      spelled)

  as_fault : (e : Fault) (other : OtherFault) → e ≡ Other other → (other ≡ Memory) ⊎ (other ≡ Write)
      → (e ≡ Other Memory) ⊎ (e ≡ Other Write)
  as_fault e other is (inl memory) = inl (is ∙ ap (λ (f : OtherFault). Other f) memory)
  as_fault e other is (inr write) = inr (is ∙ ap (λ (f : OtherFault). Other f) write)

  -- only memory and writing can fail
  only_fails : (e : Fault) → RefusesAsAsked holds check_words e → (e ≡ Other Memory) ⊎ (e ≡ Other Write)
  only_fails e (inl memory) = inl memory
  only_fails e (inr (inl write)) = inr write
  only_fails e (inr (inr (fits, inl (other, is, (found, at, which))))) =
      let read = check_read found at in
      let (paths, are, why) = alone _ _ _ _ _ _ _ (codes "check") found read.name which in
      as_fault e other is (check_fails paths other (are ∙ read.paths) why)
  only_fails e (inr (inr (fits, inr (found, at, name, why)))) =
      absurd (other_name (codes "check") (codes "profile") found.0 (check_read found at).name name refl refl)

  not_large : IsTooLarge holds check_words → ⊥
  not_large (inl (nodes, why)) = elim (only_fails (Other (TooLarge nodes)) why) [ inl memory ↦ cc | inr write ↦ cc ]
  not_large (inr why) = elim (only_fails (Other TooManyRows) why) [ inl memory ↦ cc | inr write ↦ cc ]

  no_refusal : (e : Fault) → fault_status (fault_number e) ≡ 3 → RefusesAsAsked holds check_words e → ⊥
  no_refusal e three why = by (only_fails e why)
    where
      by : (e ≡ Other Memory) ⊎ (e ≡ Other Write) → ⊥
      by (inl memory) =
          let bad : fault_status (fault_number (Other Memory)) ≡ 3 = subst (λ (f : Fault).
          fault_status (fault_number f) ≡ 3) memory three in
          omega (arith, bad)
      by (inr write) =
          let bad : fault_status (fault_number (Other Write)) ≡ 3 = subst (λ (f : Fault).
          fault_status (fault_number f) ≡ 3) write three in
          omega (arith, bad)

  -- what was done is that this text was written
  does_check : (status : ℕ) (old new : Text) → DoesAsAsked version holds check_words status (Some old) (Some new)
      → (status ≡ 0) × (new ≡ old ++ text)
  does_check status old new (inr helps) = absurd (no_error check_words helps.kind check_fits helps.error)
  does_check status old new (inl (fits, (found, at, which))) =
      let read = check_read found at in
      let did : Checks version holds found.1 status (Some old) (Some new) =
      alone _ _ _ _ _ _ _ (codes "check") found read.name which in
      let paths_are : map (λ p. p.now) did.paths ≡ codes "p.bpf" ∷ [] = did.named ∙ read.paths in
      let (stack, documents, held, shown, (written, output, appended)) = did.checked in
      let files_are : held.files ≡ bytes ∷ [] =
      one_file holds (codes "p.bpf") bytes known did.paths held.files paths_are held.read in
      let stack_is : stack ≡ program ∷ [] = one_stack (bytes ∷ []) stack (program ∷ [])
      (subst (λ (fs : List Text). SpellPrograms fs stack) files_are held.spelled.spelled) spelled.spelled in
      let plain : IsCheckText false stack written =
      plain_text _ _ version documents stack written read.instructions read.json output in
      let text_is : written ≡ text = one_text false (program ∷ []) written text
      (subst (λ (s : List (List Insn)). IsCheckText false s written) stack_is plain) told in
      (did.status_is, appended ∙ ap (λ (t : Text). old ++ t) text_is)

  -- the same from what `command` promises of each status, for words that are these
  pub check_says : (words : List Text) (status : ℕ) (old new : Text) (Same : Type 0) → words ≡ check_words
      → status ≤ 5
      → (status ≤ 2 → DoesAsAsked version holds (meant_words words) status (Some old) (Some new)
      ⊎ ((status ≡ 2) × Same × IsTooLarge holds (meant_words words)))
      → (status ≡ 4 → RefusesWords (meant_words words))
      → (status ≡ 3 → (e : Fault) × (fault_status (fault_number e) ≡ 3) × RefusesAsAsked holds (meant_words words) e)
      → IsDone status old new text
  check_says words status old new Same are few done usage refused = by (ends status few)
    where
      did : DoesAsAsked version holds (meant_words words) status (Some old) (Some new)
          ⊎ ((status ≡ 2) × Same × IsTooLarge holds (meant_words words)) → IsDone status old new text
      did (inl does) = inl (does_check status old new (subst (λ (ws : List Text).
          DoesAsAsked version holds (meant_words ws) status (Some old) (Some new)) are does))
      did (inr (two, same, large)) =
          absurd (not_large (subst (λ (ws : List Text). IsTooLarge holds (meant_words ws)) are large))

      by : (status ≤ 2) ⊎ ((status ≡ 3) ⊎ ((status ≡ 4) ⊎ (status ≡ 5))) → IsDone status old new text
      by (inl small) = did (done small)
      by (inr (inl three)) =
          let (e, number, why) = refused three in
          absurd (no_refusal e number (subst (λ (ws : List Text). RefusesAsAsked holds (meant_words ws) e) are why))
      by (inr (inr (inl four))) =
          absurd (not_refused (subst (λ (ws : List Text). RefusesWords (meant_words ws)) are (usage four)))
      by (inr (inr (inr five))) = inr five
