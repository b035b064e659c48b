-- What files in memory hold.
use Rattle.std.specs.Prelude.{ℕ, nat_le, if◌then◌else◌, List, length, find, reverse, Option, Some, None, option_and_then, string_bytes}
use Rattle.std.specs.Str.{bytes_eq}
use Rattle.command_run.specs.declared.memory_files.MemoryFiles.{MemoryFiles}

-- what is read of a file with these bytes: all of them, or nothing where they are more than 1 MiB
abbrev pub readable : List ℕ → Option (List ℕ)
readable bytes = if nat_le (length bytes) 0x100000 then Some bytes else None

-- what is read at a path: the newest file with this name
abbrev pub held : MemoryFiles → List ℕ → Option (List ℕ)
held memory path = option_and_then (λ f. readable f.bytes.items)
    (find (λ f. bytes_eq (string_bytes f.name) path) (reverse memory.files.items))
