use Rattle.sf_policy.proofs.policy.keys.unknown_question_key.Goals as goal

pub returns : goal.returns
returns c = rw c.as_slice.ensures at c.unknown_key.ensures
