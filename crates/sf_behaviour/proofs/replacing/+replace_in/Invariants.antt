use Rattle.sf_behaviour.proofs.replacing.+replace_in.Given as goal

abbrev pub decreases-replace_in : goal.decreases-replace_in
decreases-replace_in l = l.id
