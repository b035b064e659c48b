use Rattle.sf_profile.proofs.Common.{◌<◌, ◌+◌, [], ◌∷◌, length, arith, drop, drop_more, err_from_is_err_and, map, Some, text_in, view}
use Rattle.sf_profile.proofs.read.ReadLemmas.{refused_first}
use Rattle.sf_profile.proofs.read.push_sets.Goals as goal

pub returns-in_err-push_named-clause-refused : goal.returns-in_err-push_named-clause-refused
returns-in_err-push_named-clause-refused c =
    let p = err_from_is_err_and c.from_residual.result c.from_residual.ensures.1 in
    let i = c.loop-value.value-index in
    let v = c.value-item.result in
    let within : i < length c.args.items.now = omega arith in
    rw (p.1, p.2)
    (refused_first c.args.settings.now (Some c.loop-value.sets.items) (text_in (view v) ∷ [])
    (map text_in (map view (drop (i + 1) c.args.items.now))) c.in_err-push_named.field-0.0 _
    (rw (drop_more c.args.items.now i v within, ← c.value-item.is) at c.loop-value.invariant)
    (rw c.text_of.ensures at c.in_err-push_named.ensures.refused))
