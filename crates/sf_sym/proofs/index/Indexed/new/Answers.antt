use Rattle.sf_sym.proofs.Common.{◌≡◌, replicate}
use Rattle.sf_sym.proofs.index.IndexLemmas.{IsIndexed-none}
use Rattle.sf_sym.proofs.index.Indexed.new.Goals as goal

pub invariant_of-result : goal.invariant_of-result
invariant_of-result c =
    let zeros : c.in_ok-vec.field-0.items ≡ replicate 127 0 = c.in_ok-vec.ensures.items_if_clones_equal (λ y e. e) in
    rw (c.in_ok-new.ensures, zeros) IsIndexed-none
