use Rattle.sf_command_line.proofs.Common.{◌≡◌, ◌++◌, IsUtf8, string_bytes, chars_rest, visible}
use Rattle.sf_command_line.proofs.terminal.visible.Given as goal

abbrev pub invariant-loop-character : goal.invariant-loop-character
invariant-loop-character l = IsUtf8 (chars_rest l.character-iterator)
    × (string_bytes l.all ++ visible (chars_rest l.character-iterator) ≡ visible l.fn.text)
