-- The filter stack that files spell, in the order of installation, or why it is refused.
use Rattle.std.specs.Prelude.{◌≡◌, ◌≢◌, ℕ, ◌+◌, ◌*◌, ◌%◌, ◌<◌, ◌≤◌, List, [], ◌∷◌, length, take, slice_get, Some}
use Rattle.sf_insn.specs.declared.raw.RawInsn.{RawInsn}
use Rattle.sf_insn.specs.Spelling.{spelling, AreInsns}
use Rattle.sf_check.specs.declared.insn.Insn.{Insn}
use Rattle.sf_check.specs.declared.fault.Fault.{Fault as CheckFault}
use Rattle.sf_check.specs.declared.fault.Fault.TheVariants as check
use Rattle.sf_check.specs.Programs.{SpellsProgram}
use Rattle.sf_check.specs.Refusals.{IsFirstFault}
use Rattle.sf_check.specs.Stacks.{path_length, IsLawfulStack}
use Rattle.sf_stack.specs.declared.fault.Fault.{Fault}
use Rattle.sf_stack.specs.declared.fault.Fault.TheVariants as faults

-- files spell lawful programs, each file one
abbrev pub SpellPrograms : List (List ℕ) → List (List Insn) → Type 0
SpellPrograms [] [] = Unit {0}
SpellPrograms (file ∷ files) (program ∷ programs) = SpellsProgram file program × SpellPrograms files programs
SpellPrograms _ _ = ⊥

-- files spell the programs of a lawful stack, in order of installation
pub record SpellStack (files : List (List ℕ)) (programs : List (List Insn)) : Type 0 where
  pub spelled : SpellPrograms files programs
  pub lawful : IsLawfulStack programs

-- the bytes of a filter file spell instructions with this first fault
pub record SpellsFault (bytes : List ℕ) (fault : CheckFault) : Type 0 where
  pub raws : List RawInsn
  pub fields : AreInsns raws
  pub spelled : bytes ≡ spelling raws
  pub first : IsFirstFault raws fault

-- why the bytes of the filter with this number are refused
abbrev pub IsRefusalOf : ℕ → List ℕ → Fault → Type 0
IsRefusalOf number bytes (faults.Ragged filter) = (filter ≡ number) × (length bytes % 8 ≢ 0)
IsRefusalOf number bytes (faults.Empty filter) = (filter ≡ number) × (length bytes ≡ 0)
IsRefusalOf number bytes (faults.TooLong filter) = (filter ≡ number) × (length bytes % 8 ≡ 0)
    × (8 * 4096 < length bytes)
IsRefusalOf number bytes (faults.Code filter at) = (filter ≡ number) × SpellsFault bytes (check.Code at)
IsRefusalOf number bytes (faults.Field filter at) = (filter ≡ number) × SpellsFault bytes (check.Field at)
IsRefusalOf number bytes (faults.Jump filter at) = (filter ≡ number) × SpellsFault bytes (check.Jump at)
IsRefusalOf number bytes (faults.Last filter) = (filter ≡ number) × SpellsFault bytes check.Last
IsRefusalOf number bytes (faults.Scratch filter at) = (filter ≡ number) × SpellsFault bytes (check.Scratch at)
IsRefusalOf number bytes _ = ⊥

-- a file is refused, and those before it spell lawful programs
pub record IsFileRefusal (files : List (List ℕ)) (fault : Fault) : Type 0 where
  pub place : ℕ
  pub file : List ℕ
  pub at : slice_get files place ≡ Some file
  pub programs : List (List Insn)
  pub before : SpellPrograms (take place files) programs
  pub refused : IsRefusalOf (place + 1) file fault

-- 1 to 64 files
pub record AreFew (files : List (List ℕ)) : Type 0 where
  pub some : 0 < length files
  pub few : length files ≤ 64

-- all files spell lawful programs, whose path is too long
pub record SpellLongPath (files : List (List ℕ)) : Type 0 where
  pub programs : List (List Insn)
  pub spelled : SpellPrograms files programs
  pub long : 32768 < path_length programs

-- The first refusal of files: their number, then the first file that is refused, then the path through all programs.
abbrev pub IsFirstRefusal : List (List ℕ) → Fault → Type 0
IsFirstRefusal files faults.NoFilter = length files ≡ 0
IsFirstRefusal files faults.TooMany = 64 < length files
IsFirstRefusal files faults.PathLength = AreFew files × SpellLongPath files
IsFirstRefusal files fault = AreFew files × IsFileRefusal files fault
