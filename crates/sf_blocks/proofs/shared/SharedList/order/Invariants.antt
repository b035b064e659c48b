use Rattle.sf_blocks.proofs.Common.{◌≡◌, map, arc_slice_items, slice_cmp}
use Rattle.sf_blocks.proofs.shared.OrderLemmas.{from}
use Rattle.sf_blocks.proofs.shared.SharedList.order.Given as goal

abbrev pub invariant-loop-place : goal.invariant-loop-place
invariant-loop-place g l =
    slice_cmp g.T.Ord.cmp l.self l.other
    ≡ slice_cmp g.T.Ord.cmp (from (map arc_slice_items l.left) l.self-inside.tail.items l.place)
    (from (map arc_slice_items l.right) l.other-inside.tail.items l.place)
