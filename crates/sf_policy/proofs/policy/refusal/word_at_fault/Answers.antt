use Rattle.sf_policy.proofs.policy.refusal.word_at_fault.Goals as goal

pub returns : goal.returns
returns c = rw c.as_slice.ensures at c.word_among.ensures
