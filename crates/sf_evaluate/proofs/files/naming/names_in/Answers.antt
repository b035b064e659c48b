use Rattle.sf_evaluate.proofs.Common.{inl, inr, refl, sym}
use Rattle.sf_evaluate.proofs.files.naming.names_in.Goals as goal

pub returns-clause-refused : goal.returns-clause-refused
returns-clause-refused g c =
    let agrees = rw (sym c.deref.ensures.value) at c.in_ok-bytes.ensures.bytes in
    inr (inr (c.deref.result.now, agrees, inl (refl, inl c.in-Err.ensures.cases.0)))
