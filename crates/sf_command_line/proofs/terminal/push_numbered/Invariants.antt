use Rattle.sf_command_line.proofs.Common.{◌≡◌, ◌++◌, flat_map, string_bytes, take, numbered}
use Rattle.sf_command_line.proofs.terminal.push_numbered.Given as goal

abbrev pub invariant-loop-byte : goal.invariant-loop-byte
invariant-loop-byte l = string_bytes l.text ≡ string_bytes l.initial.text
    ++ flat_map numbered (take l.byte-index l.bytes)
