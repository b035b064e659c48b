use Rattle.sf_evaluate.proofs.Common.{inl, inr, map, fun_ext, view, handed_on}
use Rattle.sf_evaluate.proofs.KeptFiles.{both_why, kept_stack, unread_new}
use Rattle.sf_evaluate.proofs.files.stacks.read_stacks.Goals as goal

pub returns-in-Ok-clause-old : goal.returns-in-Ok-clause-old
returns-in-Ok-clause-old g c =
    kept_stack _ _ _ c.in_ok-older.ensures.read _ (rw c.deref.ensures.value at c.in-Ok.ensures.old)

pub returns-in-Ok-clause-new : goal.returns-in-Ok-clause-new
returns-in-Ok-clause-new g c =
    kept_stack _ _ _ (rw (fun_ext c.in_ok-older.ensures.same) at c.in_ok-newer.ensures.read) _
    (rw c.deref-2.ensures.value at c.in-Ok.ensures.new)

pub returns-in-Ok-clause-told : goal.returns-in-Ok-clause-told
returns-in-Ok-clause-told g c = (
  map view c.in_ok-older.told.items,
  map view c.in_ok-newer.added.items,
  c.in_ok-older.ensures.told,
  rw (fun_ext c.in_ok-older.ensures.same) at c.in_ok-newer.ensures.told,
  c.in_ok-documents-in-Ok.ensures,
)

pub returns-then-number-old-clause-refused : goal.returns-then-number-old-clause-refused
returns-then-number-old-clause-refused g c =
    both_why _ _ _ _ _ c.in_ok-older.ensures.read
    (rw (fun_ext c.in_ok-older.ensures.same) at c.in_ok-newer.ensures.read) _
    (rw (c.deref.ensures.value, c.deref-2.ensures.value) at c.in-Err.ensures.refused)

pub returns-clause-refused : goal.returns-clause-refused
returns-clause-refused g c =
    both_why _ _ _ _ _ c.in_ok-older.ensures.read
    (rw (fun_ext c.in_ok-older.ensures.same) at c.in_ok-newer.ensures.read) _
    (rw (c.deref.ensures.value, c.deref-2.ensures.value) at c.in-Err.ensures.refused)

pub returns-in_err-newer-clause-refused : goal.returns-in_err-newer-clause-refused
returns-in_err-newer-clause-refused g c =
    handed_on _ c.from_residual-in_err-newer.result c.in_err-newer.field-0.0 c.from_residual-in_err-newer.ensures.1
    (unread_new _ _ _ _ (rw (fun_ext c.in_ok-older.ensures.same) at c.in_err-newer.ensures.refused))

pub returns-in_err-newer-clause-failed : goal.returns-in_err-newer-clause-failed
returns-in_err-newer-clause-failed g c =
    handed_on _ c.from_residual-in_err-newer.result c.in_err-newer.field-0.0 c.from_residual-in_err-newer.ensures.1
    (inr (inl (rw (fun_ext c.in_ok-older.ensures.same) at c.in_err-newer.ensures.failed)))
