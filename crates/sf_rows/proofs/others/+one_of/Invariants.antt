use Rattle.sf_rows.proofs.others.+one_of.Given as goal

abbrev pub decreases-one_of : goal.decreases-one_of
decreases-one_of l = l.bits
