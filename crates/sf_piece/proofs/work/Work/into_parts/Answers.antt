use Rattle.sf_piece.proofs.work.Work.into_parts.Goals as goal

pub returns-clause-plain : goal.returns-clause-plain
returns-clause-plain c = rw (← c.self.view_is) c.self.invariant.plain

pub returns-clause-rule : goal.returns-clause-rule
returns-clause-rule c = rw (← c.self.view_is) c.self.invariant.rule
