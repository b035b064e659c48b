use Rattle.sf_evaluate.proofs.KeptFiles.{kept_stack, kept_why}
use Rattle.sf_evaluate.proofs.files.stacks.read_stack.Goals as goal

pub returns-in-Ok-clause-held : goal.returns-in-Ok-clause-held
returns-in-Ok-clause-held g c =
    kept_stack _ _ _ c.in_ok-read.ensures.read _ (rw c.deref.ensures.value at c.in-Ok.ensures.accepted)

pub returns-clause-refused : goal.returns-clause-refused
returns-clause-refused g c =
    kept_why _ _ _ c.in_ok-read.ensures.read _ (rw c.deref.ensures.value at c.in-Err.ensures.refused)
