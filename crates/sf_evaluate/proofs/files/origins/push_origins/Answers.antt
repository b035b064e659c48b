use Rattle.sf_evaluate.proofs.files.origins.OriginLemmas.{one_origin}
use Rattle.sf_evaluate.proofs.files.origins.push_origins.Goals as goal

pub loop-place-preserved : goal.loop-place-preserved
loop-place-preserved c =
    let so_far = c.loop-place.invariant in
    one_origin _ _ _ so_far.0 _ _ _ so_far.1 so_far.2 c.in_ok-push.ensures.items c.in_ok-origin_document.ensures
