-- What is read of files in memory.
use Rattle.std.proofs.Common.{◌≡◌, ◌∙◌, ◌⊎◌, List, ℕ, refl, subst, sym, inl, inr}
use Rattle.std.specs.Prelude.{Option, Some, None, find, option_and_then, reverse, string_bytes}
use Rattle.std.specs.Str.{bytes_eq}
use Rattle.sf_stack.specs.declared.fault.Fault.{Fault}
use Rattle.sf_stack.specs.declared.fault.Fault.TheVariants.{Memory, Read}
use Rattle.sf_evaluate.specs.Files.{AreKnownBytes}
use Rattle.command_run.specs.Memory.{held, readable}
use Rattle.command_run.specs.declared.memory_files.MemoryFiles.{MemoryFiles}
use Rattle.command_run.specs.declared.memory_files.Named.{Named}

-- what is held at a path, by the file that is found
pub held_is : (memory : MemoryFiles) (path : List ℕ) (files : List Named) (found : Option Named)
    → files ≡ memory.files.items → found ≡ find (λ f. bytes_eq (string_bytes f.name) path) (reverse files)
    → held memory path ≡ option_and_then (λ f. readable f.bytes.items) found
held_is memory path files found same is = rw (is, same) refl

-- what was read is what is known
pub known_bytes : (known : Option (List ℕ)) (bytes read : List ℕ) → known ≡ readable bytes
    → readable bytes ≡ Some read → AreKnownBytes known read
known_bytes known bytes read is some = subst (λ (o : Option (List ℕ)). AreKnownBytes o read) (sym (is ∙ some)) refl

-- where nothing can be read, nothing is known
pub none_known : (known : Option (List ℕ)) (bytes : List ℕ) (e : Fault) → known ≡ readable bytes
    → ((e ≡ Read) × (readable bytes ≡ None)) ⊎ (e ≡ Memory) → ((e ≡ Read) × (known ≡ None)) ⊎ (e ≡ Memory)
none_known known bytes e is (inl (read, none)) = inl (read, is ∙ none)
none_known known bytes e is (inr memory) = inr memory
