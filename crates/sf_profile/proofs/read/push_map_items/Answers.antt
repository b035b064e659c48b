use Rattle.sf_profile.proofs.Common.{◌<◌, ◌+◌, length, arith, drop, drop_more, err_from_is_err_and, flat_map, item_sets, map, Some, view}
use Rattle.sf_profile.proofs.read.ReadLemmas.{refused_first}
use Rattle.sf_profile.proofs.read.push_map_items.Goals as goal

pub returns-in_err-push_map_item-clause-refused : goal.returns-in_err-push_map_item-clause-refused
returns-in_err-push_map_item-clause-refused c =
    let p = err_from_is_err_and c.from_residual.result c.from_residual.ensures.1 in
    let s = c.args.settings.now in
    let i = c.loop-value.value-index in
    let v = c.value-item.result in
    let within : i < length c.args.items.now = omega arith in
    rw (p.1, p.2)
    (refused_first s (Some c.loop-value.sets.items) (item_sets s (view v))
    (flat_map (item_sets s) (map view (drop (i + 1) c.args.items.now))) c.in_err-push_map_item.field-0.0 _
    (rw (drop_more c.args.items.now i v within, ← c.value-item.is) at c.loop-value.invariant)
    c.in_err-push_map_item.ensures.refused)
