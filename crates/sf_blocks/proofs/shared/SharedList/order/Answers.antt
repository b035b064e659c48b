use Rattle.sf_blocks.proofs.Common.{common_steps, ◌≡◌, ◌+◌, length, map, ◌∙◌, arith, arc_slice_items, arc_value, slice_cmp, ordering_then, nat_cmp, AreWideBy, All-map}
use Rattle.sf_blocks.proofs.shared.MapLemmas.{get_or-map_at, length-map_of}
use Rattle.sf_blocks.proofs.shared.OrderLemmas.{from, from-first, by_blocks, decided, undecided, at_end}
use Rattle.sf_blocks.proofs.shared.SharedList.order.Given.{Over}
use Rattle.sf_blocks.proofs.shared.SharedList.order.Goals.{After-is_ne, After-is_ne-2}
use Rattle.sf_blocks.proofs.shared.SharedList.order.Goals as goal

pub loop-place-init : goal.loop-place-init
loop-place-init g c = grind (arith, common_steps, from-first)

-- two blocks at one place, as the code compares them
step : (g : Over) (c : After-is_ne g)
    → slice_cmp g.T.Ord.cmp c.args.self.now c.args.other.now
    ≡ ordering_then c.order_of-order.result
    (slice_cmp g.T.Ord.cmp
    (from (map arc_slice_items c.blocks_of-left.result.now) c.self.inside.tail.items (c.loop-place.place + 1))
    (from (map arc_slice_items c.blocks_of-right.result.now) c.other.inside.tail.items (c.loop-place.place + 1)))
step g c =
    let left = All-map (λ xs. length xs ≡ 16) arc_slice_items (arc_value c.self.inside.full).items c.self.invariant.0 in
    let right = All-map (λ xs. length xs ≡ 16) arc_slice_items (arc_value c.other.inside.full).items
    c.other.invariant.0 in
    search (arith, get_or-map_at, by_blocks, length-map_of, left, right)

pub returns-then-is_ne : goal.returns-then-is_ne
returns-then-is_ne g c = grind (arith, common_steps, step, decided)

pub loop-place-preserved : goal.loop-place-preserved
loop-place-preserved g c = grind (arith, common_steps, step, undecided)

-- what is behind the blocks that both lists have, as the code compares it
ends : (g : Over) (c : After-is_ne-2 g)
    → slice_cmp g.T.Ord.cmp c.args.self.now c.args.other.now
    ≡ ordering_then c.order_of-order-2.result (nat_cmp (length c.args.self.now) (length c.args.other.now))
ends g c =
    let ls = c.blocks_of-left.result.now in
    let rs = c.blocks_of-right.result.now in
    let full_left : AreWideBy (λ xs. xs) 16 (map arc_slice_items ls) = rw c.blocks_of-left.ensures
    (All-map (λ xs. length xs ≡ 16) arc_slice_items (arc_value c.self.inside.full).items c.self.invariant.0) in
    let full_right : AreWideBy (λ xs. xs) 16 (map arc_slice_items rs) = rw c.blocks_of-right.ensures
    (All-map (λ xs. length xs ≡ 16) arc_slice_items (arc_value c.other.inside.full).items c.other.invariant.0) in
    let lefts = length-map_of arc_slice_items ls in
    let rights = length-map_of arc_slice_items rs in
    let end = at_end g.T.Ord.cmp (map arc_slice_items ls) (map arc_slice_items rs) c.self.inside.tail.items
    c.other.inside.tail.items full_left full_right c.min-both.result
    c.block_or_tail-mine.result.now c.block_or_tail-others.result.now
    (omega (arith, lefts, rights, c.min-both.ensures))
    c.self.invariant.2 c.other.invariant.2
    (λ l. c.block_or_tail-mine.ensures.block (omega (arith, l, lefts)))
    (λ l. c.block_or_tail-mine.ensures.tail (omega (arith, l, lefts)) ∙ c.as_slice-2.ensures)
    (λ l. c.block_or_tail-others.ensures.block (omega (arith, l, rights)))
    (λ l. c.block_or_tail-others.ensures.tail (omega (arith, l, rights)) ∙ c.as_slice-3.ensures) in
    let left : c.args.self.now ≡ from (map arc_slice_items ls) c.self.inside.tail.items 0 =
    rw c.blocks_of-left.ensures (from-first arc_slice_items (arc_value c.self.inside.full).items
    c.self.inside.tail.items c.args.self.now c.self.view_is) in
    let right : c.args.other.now ≡ from (map arc_slice_items rs) c.other.inside.tail.items 0 =
    rw c.blocks_of-right.ensures (from-first arc_slice_items (arc_value c.other.inside.full).items
    c.other.inside.tail.items c.args.other.now c.other.view_is) in
    let last : c.loop-place.place ≡ c.min-both.result = omega arith in
    rw c.order_of-order-2.ensures (rw last at c.loop-place.invariant ∙ rw (← left, ← right) at end)

pub returns-then-is_ne-2 : goal.returns-then-is_ne-2
returns-then-is_ne-2 g c = grind (arith, common_steps, ends, decided)

pub returns : goal.returns
returns g c = grind (arith, common_steps, ends, undecided)
