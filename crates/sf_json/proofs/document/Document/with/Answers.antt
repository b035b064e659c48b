use Rattle.sf_json.proofs.document.DocumentLemmas.{no_float_within}
use Rattle.sf_json.proofs.document.Document.with.Goals as goal

pub invariant_of-with : goal.invariant_of-with
invariant_of-with c = rw c.in-Object.map-is (no_float_within _ _ c.in-Object.is c.self.invariant)
