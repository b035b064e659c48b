use Rattle.sf_names.proofs.Common.{subst}
use Rattle.sf_names.proofs.joining.JoinLemmas.{JoinedSoFar, one_joined}
use Rattle.sf_names.proofs.joining.join_sets.Goals as goal

pub loop-names-preserved : goal.loop-names-preserved
loop-names-preserved c =
    let so_far = subst (λ l. JoinedSoFar c.args.all.now.items c.args.sets.items c.loop-names.all.items l)
    c.in-Some.ensures.steps.0 c.loop-names.invariant in
    one_joined _ _ _ _ _ c.in-Some.names so_far c.in_ok-join_one.ensures.joined
