use Rattle.sf_blocks.proofs.Common.{◌≡◌, drop, slice_cmp}
use Rattle.sf_blocks.proofs.shared.order_of.Given as goal

abbrev pub invariant-loop-place : goal.invariant-loop-place
invariant-loop-place g l =
    slice_cmp g.T.Ord.cmp l.left l.right ≡ slice_cmp g.T.Ord.cmp (drop l.place l.left) (drop l.place l.right)
