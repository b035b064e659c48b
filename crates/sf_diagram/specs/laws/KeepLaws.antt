-- What a store keeps, it keeps from call to call.
use Rattle.std.proofs.Common.{◌∙◌, List, arith}
use Rattle.sf_diagram.specs.Trees.{Tree}
use Rattle.sf_diagram.specs.Stores.{StoreData, KeepsStore, KeepsTrees}

-- trees that are kept twice are kept
pub keeps_both : {a b c : List Tree} → KeepsTrees a b → KeepsTrees b c → KeepsTrees a c
keeps_both h k = record {
  longer = omega (arith, h.longer, k.longer);
  same = λ i l. k.same i (omega (arith, h.longer)) ∙ h.same i l;
}

-- a store that keeps what another one keeps
pub keeps_more : (a b c : StoreData) → KeepsStore a b → KeepsStore b c → KeepsStore a c
keeps_more a b c h k = record { trees = keeps_both h.trees k.trees; most = k.most ∙ h.most }
