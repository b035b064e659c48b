use Rattle.sf_names.proofs.Common.{refl}
use Rattle.sf_names.proofs.joining.JoinLemmas.{added_to, are_few}
use Rattle.sf_names.proofs.joining.join_set.Goals as goal

pub returns-clause-joined : goal.returns-clause-joined
returns-clause-joined c =
    added_to c.args.names.now _ c.args.more _ c.new_calls-calls.result.items c.add_calls.result c.names.view_is (cc)
    (cc) (are_few _ _ _ _ _ c.are_too_many.ensures c.as_slice.ensures.value c.as_slice-2.ensures.value
    c.if-are_too_many.false) refl refl c.add_calls.ensures.added
