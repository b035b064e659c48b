use Rattle.sf_profile.proofs.Common.{◌≡◌, true, map, take, list_all, is_short, raw_of}
use Rattle.sf_profile.proofs.instruction.raws_of.Given as goal

abbrev pub invariant-loop-instruction : goal.invariant-loop-instruction
invariant-loop-instruction l = record {
  so_far : l.raws.items ≡ map raw_of (take l.instruction-index l.code);
  short : list_all is_short (take l.instruction-index l.code) ≡ true;
}
