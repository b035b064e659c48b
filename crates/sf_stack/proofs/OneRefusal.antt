-- Files have at most one first refusal.
use Rattle.sf_stack.proofs.Common.{◌≡◌, inl, inr, ℕ, ◌+◌, ◌*◌, ◌<◌, List, [], ◌∷◌, length, take, zero, suc, slice_get, refl, ap, sym, ◌∙◌, arith, cases_lt, same_Some, RawInsn, IsFirstFault, Fault, check_fault, IsRefusalOf, IsFileRefusal, IsFirstRefusal}
use Rattle.sf_check.specs.declared.fault.Fault.{Fault as CheckFault}
use Rattle.sf_stack.proofs.RefusalLemmas.{OneSpelling, FaultsAreNot, Kind, ragged, empty, long, spoken, kind_of, Spoken, StackKind, none, many, path, file, stack_kind, length_spelling, refused_no_program, program_at, file_no_stack}

abbrev pub OneFault : Type 0
OneFault = (raws : List RawInsn) (e f : CheckFault) → IsFirstFault raws e → IsFirstFault raws f → e ≡ f

-- how long the bytes of instructions with a fault are
spoken_length : (number : ℕ) (bytes : List ℕ) (e : Fault) (s : Spoken number bytes e)
    → length bytes ≡ 8 * length s.spelled.raws
spoken_length number bytes e s = ap length s.spelled.spelled ∙ length_spelling s.spelled.raws

same_spoken : OneSpelling → OneFault → (number : ℕ) (bytes : List ℕ) (e f : Fault) → Spoken number bytes e
    → Spoken number bytes f → e ≡ f
same_spoken spelling one number bytes e f s t =
    let raws = spelling s.spelled.raws t.spelled.raws s.spelled.fields t.spelled.fields
    (sym s.spelled.spelled ∙ t.spelled.spelled) in
    let same = one t.spelled.raws s.fault t.fault (rw raws at s.spelled.first) t.spelled.first in
    s.is ∙ ap (check_fault number) same ∙ sym t.is

same_kind : OneSpelling → OneFault → (number : ℕ) (bytes : List ℕ) (e f : Fault) → Kind number bytes e
    → Kind number bytes f → e ≡ f
same_kind spelling one number bytes e f (ragged p q) (ragged r s) = p ∙ sym r
same_kind spelling one number bytes e f (ragged p q) (empty r s) = absurd (q (omega arith))
same_kind spelling one number bytes e f (ragged p q) (long r s t) = absurd (q s)
same_kind spelling one number bytes e f (ragged p q) (spoken s) = let size = spoken_length number bytes f s in
    absurd (q (omega arith))
same_kind spelling one number bytes e f (empty p q) (ragged r s) = absurd (s (omega arith))
same_kind spelling one number bytes e f (empty p q) (empty r s) = p ∙ sym r
same_kind spelling one number bytes e f (empty p q) (long r s t) = absurd (omega arith)
same_kind spelling one number bytes e f (empty p q) (spoken s) = let size = spoken_length number bytes f s in
    let some = s.some in absurd (omega arith)
same_kind spelling one number bytes e f (long p q t) (ragged r s) = absurd (s q)
same_kind spelling one number bytes e f (long p q t) (empty r s) = absurd (omega arith)
same_kind spelling one number bytes e f (long p q t) (long r s u) = p ∙ sym r
same_kind spelling one number bytes e f (long p q t) (spoken s) = let size = spoken_length number bytes f s in
    let short = s.short in absurd (omega arith)
same_kind spelling one number bytes e f (spoken s) (ragged p q) = let size = spoken_length number bytes e s in
    absurd (q (omega arith))
same_kind spelling one number bytes e f (spoken s) (empty p q) = let size = spoken_length number bytes e s in
    let some = s.some in absurd (omega arith)
same_kind spelling one number bytes e f (spoken s) (long p q t) = let size = spoken_length number bytes e s in
    let short = s.short in absurd (omega arith)
same_kind spelling one number bytes e f (spoken s) (spoken t) = same_spoken spelling one number bytes e f s t

slice_get_take : (files : List (List ℕ)) (n i : ℕ) → i < n → slice_get (take n files) i ≡ slice_get files i
slice_get_take [] zero i lt = refl
slice_get_take [] (suc n) i lt = refl
slice_get_take (f ∷ files) zero i lt = absurd (omega arith)
slice_get_take (f ∷ files) (suc n) zero lt = refl
slice_get_take (f ∷ files) (suc n) (suc i) lt = slice_get_take files n i (omega arith)

-- a file before the one that is refused spells a lawful program, so it isn't refused itself
not_before : OneSpelling → FaultsAreNot → (files : List (List ℕ)) (e f : Fault) (r : IsFileRefusal files e)
    (s : IsFileRefusal files f) → r.place < s.place → ⊥
not_before spelling lawless files e f r s lt =
    let there = slice_get_take files s.place r.place lt ∙ r.at in
    let (program, spelled) = program_at (take s.place files) s.programs r.place r.file there s.before in
    refused_no_program spelling lawless (r.place + 1) r.file e program r.refused spelled

same_file : OneSpelling → OneFault → FaultsAreNot → (files : List (List ℕ)) (e f : Fault) → IsFileRefusal files e
    → IsFileRefusal files f → e ≡ f
same_file spelling one lawless files e f r s =
    elim (cases_lt r.place s.place) [
      | inl lt ↦ absurd (not_before spelling lawless files e f r s lt)
      | inr ge ↦ elim (cases_lt s.place r.place) [
        | inl gt ↦ absurd (not_before spelling lawless files f e s r gt)
        | inr le ↦
            let here : r.place ≡ s.place = omega arith in
            let file : r.file ≡ s.file = same_Some r.file s.file (sym r.at ∙ ap (λ n. slice_get files n) here ∙ s.at) in
            let refused : IsRefusalOf (s.place + 1) s.file e = rw (here, file) at r.refused in
            same_kind spelling one (s.place + 1) s.file e f (kind_of _ _ e refused) (kind_of _ _ f s.refused)
      ]
    ]

same_stack_kind : OneSpelling → OneFault → FaultsAreNot → (files : List (List ℕ)) (e f : Fault) → StackKind files e
    → StackKind files f → e ≡ f
same_stack_kind spelling one lawless files e f (none p q) (none r s) = p ∙ sym r
same_stack_kind spelling one lawless files e f (none p q) (many r s) = absurd (omega arith)
same_stack_kind spelling one lawless files e f (none p q) (path r few s) = let some = few.some in absurd (omega arith)
same_stack_kind spelling one lawless files e f (none p q) (file few s) = let some = few.some in absurd (omega arith)
same_stack_kind spelling one lawless files e f (many p q) (none r s) = absurd (omega arith)
same_stack_kind spelling one lawless files e f (many p q) (many r s) = p ∙ sym r
same_stack_kind spelling one lawless files e f (many p q) (path r few s) = let most = few.few in absurd (omega arith)
same_stack_kind spelling one lawless files e f (many p q) (file few s) = let most = few.few in absurd (omega arith)
same_stack_kind spelling one lawless files e f (path p few q) (none r s) = let some = few.some in absurd (omega arith)
same_stack_kind spelling one lawless files e f (path p few q) (many r s) = let most = few.few in absurd (omega arith)
same_stack_kind spelling one lawless files e f (path p few q) (path r few' s) = p ∙ sym r
same_stack_kind spelling one lawless files e f (path p few q) (file few' s) =
    absurd (file_no_stack spelling lawless files f q.programs s q.spelled)
same_stack_kind spelling one lawless files e f (file few q) (none r s) = let some = few.some in absurd (omega arith)
same_stack_kind spelling one lawless files e f (file few q) (many r s) = let most = few.few in absurd (omega arith)
same_stack_kind spelling one lawless files e f (file few q) (path r few' s) =
    absurd (file_no_stack spelling lawless files e s.programs q s.spelled)
same_stack_kind spelling one lawless files e f (file few q) (file few' s) = same_file spelling one lawless files e f q s

pub same_refusal : OneSpelling → OneFault → FaultsAreNot → (files : List (List ℕ)) (e f : Fault)
    → IsFirstRefusal files e → IsFirstRefusal files f → e ≡ f
same_refusal spelling one lawless files e f r s = search (arith, same_stack_kind, stack_kind)
