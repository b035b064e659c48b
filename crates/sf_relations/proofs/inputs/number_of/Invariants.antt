use Rattle.sf_relations.proofs.Common.{◌≡◌, bits_with, number_by}
use Rattle.sf_relations.proofs.inputs.number_of.Given as goal

abbrev pub invariant-loop-bit : goal.invariant-loop-bit
invariant-loop-bit l = l.number ≡ number_by l.first 1 l.bit (bits_with l.variables)
