use Rattle.sf_parts.proofs.word.+tested_bits.Given as goal

abbrev pub decreases-tested_bits : goal.decreases-tested_bits
decreases-tested_bits l = l.id
