-- What the bytes of filter files spell, and why they are refused.
use Rattle.sf_stack.proofs.Common.{common_steps, ◌≡◌, ◌==◌, false, ◌⊎◌, inl, inr, ℕ, ◌+◌, ◌<◌, ◌≤◌, List, [], ◌∷◌, ◌++◌, length, take, map, Vec, Global, Ok, Err, Result, MatchResult, IfErr, IsErrAnd, get_or, ◌∙◌, refl, ap, sym, subst, arith, take_more, get_or-map, length-map, slice_get_read, err_from_is_err_and, path_length, Stack, RawInsn, spelling, AreInsns, Insn, SpellsProgram, IsFirstFault, Fault, check_fault, as_many, SpellPrograms, IsRefusalOf, AreFew, IsFileRefusal, IsFirstRefusal}
use Rattle.sf_check.specs.declared.fault.Fault.{Fault as CheckFault}
use Rattle.sf_check.specs.declared.fault.Fault.TheVariants as check
use Rattle.sf_stack.specs.declared.fault.Fault.TheVariants as faults

-- what holds of an error after `map_err` made another one of it
pub mapped_err : {X E D : Type 0} {Post : E → D → Type 0} {P : E → Type 0} {Q : D → Type 0} (r : Result X E)
    (s : Result X D)
    → MatchResult r (λ x. s ≡ Ok x) (λ e. IsErrAnd s (Post e)) → IfErr r P
    → ((e : E) (d : D) → r ≡ Err e → Post e d → P e → Q d) → IfErr s Q
mapped_err {Q = Q} (Ok x) s same refused due = subst (λ t. IfErr t Q) (sym same) tt
mapped_err {Q = Q} (Err e) s other refused due =
    let (d, is, post) = err_from_is_err_and s other in
    subst (λ t. IfErr t Q) (sym is) (due e d refl post refused)

pub unlawful_due : (number : ℕ) (bytes : List ℕ) (raws : List RawInsn) (e : CheckFault)
    → AreInsns raws → bytes ≡ spelling raws → 0 < length raws → length raws ≤ 4096
    → (e ≡ check.Memory) ⊎ IsFirstFault raws e
    → (check_fault number e ≡ faults.Memory) ⊎ IsRefusalOf number bytes (check_fault number e)
unlawful_due number bytes raws e fields spelled some short (inl memory) = inl (ap (check_fault number) memory)
unlawful_due number bytes raws check.Empty fields spelled some short (inr h) = absurd (omega arith)
unlawful_due number bytes raws check.TooLong fields spelled some short (inr h) = absurd (omega arith)
unlawful_due number bytes raws (check.Code at) fields spelled some short (inr h) =
    inr (refl, record { raws = raws; fields = fields; spelled = spelled; first = h })
unlawful_due number bytes raws (check.Field at) fields spelled some short (inr h) =
    inr (refl, record { raws = raws; fields = fields; spelled = spelled; first = h })
unlawful_due number bytes raws (check.Jump at) fields spelled some short (inr h) =
    inr (refl, record { raws = raws; fields = fields; spelled = spelled; first = h })
unlawful_due number bytes raws check.Last fields spelled some short (inr h) =
    inr (refl, record { raws = raws; fields = fields; spelled = spelled; first = h })
unlawful_due number bytes raws (check.Scratch at) fields spelled some short (inr h) =
    inr (refl, record { raws = raws; fields = fields; spelled = spelled; first = h })
unlawful_due number bytes raws _ fields spelled some short (inr h) = absurd h

pub one_more_program : (files : List (List ℕ)) (programs : List (List Insn)) (file : List ℕ) (program : List Insn)
    → SpellPrograms files programs → SpellsProgram file program
    → SpellPrograms (files ++ file ∷ []) (programs ++ program ∷ [])
one_more_program [] [] file program h p = (p, tt)
one_more_program (f ∷ files) (g ∷ programs) file program h p = (h.0, one_more_program files programs file program h.1 p)
one_more_program [] (g ∷ programs) file program h p = absurd h
one_more_program (f ∷ files) [] file program h p = absurd h

-- the bytes of files
abbrev pub bytes_of : List (Vec ℕ Global) → List (List ℕ)
bytes_of files = map (λ f. f.items) files

file_at : (files : List (Vec ℕ Global)) (i : ℕ) (file : Vec ℕ Global) → i < length files → file ≡ get_or files i file
    → get_or (bytes_of files) i [] ≡ file.items
file_at files i file h is = get_or-map (λ f. f.items) files i file [] h ∙ ap (λ (f : Vec ℕ Global). f.items) (sym is)

-- One more file spells a lawful program.
pub one_more_file : (files : List (Vec ℕ Global)) (programs : List (List Insn)) (i : ℕ) (file : Vec ℕ Global)
    (program : List Insn)
    → i < length files → file ≡ get_or files i file
    → SpellPrograms (take i (bytes_of files)) programs → SpellsProgram file.items program
    → SpellPrograms (take (i + 1) (bytes_of files)) (programs ++ program ∷ [])
one_more_file files programs i file program h is before spelled =
    grind (arith, common_steps, length-map, take_more, file_at, one_more_program)

-- A file is refused, after files that spell lawful programs.
pub one_file_refused : (files : List (Vec ℕ Global)) (programs : List (List Insn)) (i : ℕ)
    (file : Vec ℕ Global) (e : Fault)
    → i < length files → file ≡ get_or files i file
    → SpellPrograms (take i (bytes_of files)) programs
    → (e ≡ faults.Memory) ⊎ IsRefusalOf (i + 1) file.items e
    → (e ≡ faults.Memory) ⊎ IsFileRefusal (bytes_of files) e
one_file_refused files programs i file e h is before (inl memory) = inl memory
one_file_refused files programs i file e h is before (inr refused) =
    let below : i < length (bytes_of files) = rw length-map h in
    inr (record {
      place = i;
      file = file.items;
      at = slice_get_read (bytes_of files) (length (bytes_of files)) i file.items refl below
          (sym (get_or-map (λ f. f.items) files i file file.items h ∙ ap (λ (f : Vec ℕ Global). f.items) (sym is)));
      programs = programs;
      before = before;
      refused = refused;
    })

-- Files whose programs make no stack, though they are few: their path is too long.
pub stack_refused : (files : List (List ℕ)) (programs : List (List Insn)) (number : ℕ) (r : Result Stack CheckFault)
    (e : CheckFault)
    → AreFew files → SpellPrograms files programs → r ≡ Err e
    → (e ≡ check.NoFilter) ⊎ ((e ≡ check.TooMany) ⊎ (e ≡ check.PathLength))
    → (r ≡ Err check.NoFilter → length programs ≡ 0)
    → (r ≡ Err check.TooMany → 64 < length programs)
    → (r ≡ Err check.PathLength → (length programs ≤ 64) × (32768 < path_length programs))
    → (check_fault number e ≡ faults.Memory) ⊎ IsFirstRefusal files (check_fault number e)
stack_refused files programs number r e few spelled is only none many long = grind (arith, common_steps, as_many)

pub few_files : (files : List (Vec ℕ Global)) → (length files == 0) ≡ false → length files ≤ 64
    → AreFew (bytes_of files)
few_files [] none few = cc
few_files (file ∷ files) none few =
    let count : length (bytes_of (file ∷ files)) ≡ length (file ∷ files) =
    length-map (file ∷ files) (λ (f : Vec ℕ Global). f.items) in
    record { some = omega arith; few = omega arith }
