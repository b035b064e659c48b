use Rattle.sf_needed.proofs.laws.kept_filters_of_a_stack_answer_alike.Goals as goal

pub returns : goal.returns
returns c = λ n h. c.kept_filters_answer_alike.ensures n.stack n.kept h.kept
