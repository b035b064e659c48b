use Rattle.sf_names.proofs.Common.{get_or, refl, slice_get-get_or, on_ok_weaker}
use Rattle.sf_names.proofs.joining.JoinLemmas.{refused_there}
use Rattle.sf_names.proofs.joining.join_at.Goals as goal

pub returns-clause-joined : goal.returns-clause-joined
returns-clause-joined c =
    let d = c.index-sets-place.result in
    let there = slice_get-get_or c.args.sets.now c.args.place d c.requires in
    on_ok_weaker c.join_set.result (λ made. (
      get_or c.args.sets.now c.args.place d,
      c.join_set.new.names,
      there,
      made,
      refl,
    )) c.join_set.ensures.joined

pub returns-clause-refused : goal.returns-clause-refused
returns-clause-refused c =
    refused_there c.args.sets.now c.args.place c.index-sets-place.result c.args.more c.join_set.new.names
    c.join_set.result c.requires c.join_set.ensures.refused
