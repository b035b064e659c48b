use Rattle.sf_rows.proofs.calls.+behind.Given as goal

abbrev pub decreases-behind : goal.decreases-behind
decreases-behind l = l.id
