use Rattle.sf_policy.proofs.policy.keys.has_group_keys.Goals as goal

pub returns : goal.returns
returns c = rw c.as_slice.ensures at c.has_only.ensures
