-- Files that are refused spell no lawful stack.
use Rattle.sf_stack.proofs.Common.{common_steps, ◌≡◌, ℕ, ◌+◌, ◌*◌, ◌%◌, ◌<◌, ◌≤◌, ◌≢◌, List, [], ◌∷◌, length, Ok, Some, slice_get, zero, suc, refl, ap, sym, subst, ◌∙◌, arith, length-append, length-map, same_Some, RawInsn, spelling, AreInsns, Insn, insn_of, IsLawfulProgram, Spells, SpellsProgram, IsFirstFault, Fault, check_fault, SpellPrograms, SpellStack, SpellsFault, SpellLongPath, IsRefusalOf, AreFew, IsFileRefusal, IsFirstRefusal, as_many}
use Rattle.sf_check.specs.declared.fault.Fault.{Fault as CheckFault}
use Rattle.sf_check.specs.declared.fault.Fault.TheVariants as check
use Rattle.sf_stack.specs.declared.fault.Fault.TheVariants as faults

abbrev pub OneSpelling : Type 0
OneSpelling = (a b : List RawInsn) → AreInsns a → AreInsns b → spelling a ≡ spelling b → a ≡ b

abbrev pub OneProgram : Type 0
OneProgram = (bytes : List ℕ) (a b : List Insn) → SpellsProgram bytes a → SpellsProgram bytes b → a ≡ b

abbrev pub FaultsAreNot : Type 0
FaultsAreNot = (raws : List RawInsn) (e : CheckFault) (code : List Insn) → IsFirstFault raws e → Spells raws code
    → IsLawfulProgram code → ⊥

abbrev pub OneStack : Type 0
OneStack = (files : List (List ℕ)) (a b : List (List Insn)) → SpellPrograms files a → SpellPrograms files b → a ≡ b

pub same_programs : OneProgram → OneStack
same_programs one [] [] [] p q = refl
same_programs one (f ∷ files) (x ∷ a) (y ∷ b) p q = rw (one f x y p.0 q.0, same_programs one files a b p.1 q.1) refl
same_programs one [] (x ∷ a) b p q = absurd p
same_programs one [] [] (y ∷ b) p q = absurd q
same_programs one (f ∷ files) [] b p q = absurd p
same_programs one (f ∷ files) (x ∷ a) [] p q = absurd q

pub length_spelling : (raws : List RawInsn) → length (spelling raws) ≡ 8 * length raws
length_spelling [] = refl
length_spelling (r ∷ raws) = grind (arith, common_steps, length-append, length_spelling raws)

as_long : (raws : List RawInsn) (program : List Insn) → Spells raws program → length raws ≡ length program
as_long raws program spells = sym (length-map raws insn_of) ∙ ap length spells ∙ length-map program (λ (i : Insn). Ok i)

-- the bytes of a lawful program are 8 for each instruction
eight_each : (bytes : List ℕ) (program : List Insn) → SpellsProgram bytes program → length bytes ≡ 8 * length program
eight_each bytes program p = grind (arith, common_steps, length_spelling, as_long)

faulty : OneSpelling → FaultsAreNot → (bytes : List ℕ) (e : CheckFault) (program : List Insn) → SpellsFault bytes e
    → SpellsProgram bytes program → ⊥
faulty spelling lawless bytes e program f p =
    let raws = spelling f.raws p.raws f.fields p.fields (sym f.spelled ∙ p.spelled) in
    lawless p.raws e program (rw raws at f.first) p.read p.lawful

-- the bytes are those of 1 to 4096 instructions with a fault
pub record Spoken (number : ℕ) (bytes : List ℕ) (e : Fault) : Type 0 where
  pub fault : CheckFault
  pub spelled : SpellsFault bytes fault
  pub some : 0 < length spelled.raws
  pub short : length spelled.raws ≤ 4096
  pub is : e ≡ check_fault number fault

-- a refusal by the length of the bytes or by what they spell
pub data Kind (number : ℕ) (bytes : List ℕ) (e : Fault) : Type 0 where
  ragged : e ≡ faults.Ragged number → length bytes % 8 ≢ 0 → Kind number bytes e
  empty : e ≡ faults.Empty number → length bytes ≡ 0 → Kind number bytes e
  long : e ≡ faults.TooLong number → length bytes % 8 ≡ 0 → 8 * 4096 < length bytes → Kind number bytes e
  spoken : Spoken number bytes e → Kind number bytes e

spoken_of : (number : ℕ) (bytes : List ℕ) (e : Fault) (fault : CheckFault) (spelled : SpellsFault bytes fault)
    → 0 < length spelled.raws → length spelled.raws ≤ 4096 → e ≡ check_fault number fault → Kind number bytes e
spoken_of number bytes e fault spelled some short is =
    spoken (record { fault = fault; spelled = spelled; some = some; short = short; is = is })

pub kind_of : (number : ℕ) (bytes : List ℕ) (e : Fault) → IsRefusalOf number bytes e → Kind number bytes e
kind_of number bytes (faults.Ragged f) r = ragged (ap faults.Ragged r.0) r.1
kind_of number bytes (faults.Empty f) r = empty (ap faults.Empty r.0) r.1
kind_of number bytes (faults.TooLong f) r = long (ap faults.TooLong r.0) r.1 r.2
kind_of number bytes (faults.Code f at) r =
    spoken_of number bytes (faults.Code f at) (check.Code at) r.1 r.1.first.0.some r.1.first.0.short
    (ap (λ n. faults.Code n at) r.0)
kind_of number bytes (faults.Field f at) r =
    spoken_of number bytes (faults.Field f at) (check.Field at) r.1 r.1.first.0.some r.1.first.0.short
    (ap (λ n. faults.Field n at) r.0)
kind_of number bytes (faults.Jump f at) r =
    spoken_of number bytes (faults.Jump f at) (check.Jump at) r.1 r.1.first.0.some r.1.first.0.short
    (ap (λ n. faults.Jump n at) r.0)
kind_of number bytes (faults.Last f) r =
    spoken_of number bytes (faults.Last f) check.Last r.1 r.1.first.0.some r.1.first.0.short
    (ap faults.Last r.0)
kind_of number bytes (faults.Scratch f at) r =
    spoken_of number bytes (faults.Scratch f at) (check.Scratch at) r.1 r.1.first.0.some r.1.first.0.short
    (ap (λ n. faults.Scratch n at) r.0)
kind_of number bytes _ r = absurd r

no_program : OneSpelling → FaultsAreNot → (number : ℕ) (bytes : List ℕ) (e : Fault) (program : List Insn)
    → Kind number bytes e → SpellsProgram bytes program → ⊥
no_program spelling lawless number bytes e program (ragged is rest) p = grind (arith, common_steps, eight_each)
no_program spelling lawless number bytes e program (empty is size) p = grind (arith, common_steps, eight_each)
no_program spelling lawless number bytes e program (long is rest size) p = grind (arith, common_steps, eight_each)
no_program spelling lawless number bytes e program (spoken s) p =
    faulty spelling lawless bytes s.fault program s.spelled p

-- A file that is refused spells no lawful program.
pub refused_no_program : OneSpelling → FaultsAreNot → (number : ℕ) (bytes : List ℕ) (e : Fault) (program : List Insn)
    → IsRefusalOf number bytes e → SpellsProgram bytes program → ⊥
refused_no_program spelling lawless number bytes e program r p =
    no_program spelling lawless number bytes e program (kind_of number bytes e r) p

-- the file at a place spells a lawful program
pub program_at : (files : List (List ℕ)) (programs : List (List Insn)) (place : ℕ) (file : List ℕ)
    → slice_get files place ≡ Some file → SpellPrograms files programs
    → (program : List Insn) × SpellsProgram file program
program_at [] programs place file at p = absurd cc
program_at (f ∷ files) [] place file at p = absurd p
program_at (f ∷ files) (g ∷ programs) zero file at p =
    (g, subst (λ (x : List ℕ). SpellsProgram x g) (same_Some f file at) p.0)
program_at (f ∷ files) (g ∷ programs) (suc place) file at p = program_at files programs place file at p.1

pub file_no_stack : OneSpelling → FaultsAreNot → (files : List (List ℕ)) (e : Fault) (programs : List (List Insn))
    → IsFileRefusal files e → SpellPrograms files programs → ⊥
file_no_stack spelling lawless files e programs r p =
    let (program, spelled) = program_at files programs r.place r.file r.at p in
    refused_no_program spelling lawless (r.place + 1) r.file e program r.refused spelled

-- a refusal by the number of files, of one file, or by the path through all
pub data StackKind (files : List (List ℕ)) (e : Fault) : Type 0 where
  none : e ≡ faults.NoFilter → length files ≡ 0 → StackKind files e
  many : e ≡ faults.TooMany → 64 < length files → StackKind files e
  path : e ≡ faults.PathLength → AreFew files → SpellLongPath files → StackKind files e
  file : AreFew files → IsFileRefusal files e → StackKind files e

pub stack_kind : (files : List (List ℕ)) (e : Fault) → IsFirstRefusal files e → StackKind files e
stack_kind files faults.NoFilter r = none refl r
stack_kind files faults.TooMany r = many refl r
stack_kind files faults.PathLength r = path refl r.0 r.1
stack_kind files _ r = file r.0 r.1

no_stack : OneSpelling → FaultsAreNot → OneStack → (files : List (List ℕ)) (e : Fault) (programs : List (List Insn))
    → StackKind files e → SpellStack files programs → ⊥
no_stack spelling lawless one files e programs (none is count) s = grind (arith, common_steps, as_many)
no_stack spelling lawless one files e programs (many is count) s = grind (arith, common_steps, as_many)
no_stack spelling lawless one files e programs (path is few q) s = grind (arith, common_steps)
no_stack spelling lawless one files e programs (file few q) s =
    file_no_stack spelling lawless files e programs q s.spelled

-- Files that are refused spell no lawful stack.
pub refused_no_stack : OneSpelling → FaultsAreNot → OneStack
    → (files : List (List ℕ)) (e : Fault) (programs : List (List Insn)) → IsFirstRefusal files e
    → SpellStack files programs → ⊥
refused_no_stack spelling lawless one files e programs r s =
    no_stack spelling lawless one files e programs (stack_kind files e r) s
