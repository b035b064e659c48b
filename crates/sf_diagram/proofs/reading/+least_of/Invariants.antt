use Rattle.sf_diagram.proofs.reading.+least_of.Given as goal

abbrev pub decreases-least_of : goal.decreases-least_of
decreases-least_of l = l.id
