use Rattle.sf_audit.proofs.Common.{◌≡◌, map, take, string_bytes, letter}
use Rattle.sf_audit.proofs.document.regions.letters_of.Given as goal

abbrev pub invariant-loop-value : goal.invariant-loop-value
invariant-loop-value l = string_bytes l.text ≡ map letter (take l.value-index l.name)
