use Rattle.sf_sym.proofs.index.Indexed.find.Goals as goal

pub returns-clause-found : goal.returns-clause-found
returns-clause-found c = λ i e. rw c.self.view_is at c.place_of.ensures.found i e
