use Rattle.sf_blocks.proofs.Common.{common_steps, arith, ◌≡◌, length, ap, ◌∙◌, All-push, arc_slice_items, joined-push, joined-same, AreWide-same}
use Rattle.sf_blocks.proofs.shared.with_block.Goals as goal

pub returns-clause-full : goal.returns-clause-full
returns-clause-full g c =
    let b = c.in_ok-block.block in
    let all = c.in_ok-all.all.items in
    let wide = AreWide-same arc_slice_items 16 c.args.blocks.now all c.in_ok-all.ensures.items c.requires.full in
    rw (c.in_ok-shared.ensures.ok, c.in_ok-push.ensures.items)
    (All-push (λ x. length (arc_slice_items x) ≡ 16) all b wide
    (ap length c.in_ok-block.ensures.ok ∙ c.requires.tail))

pub returns-clause-same : goal.returns-clause-same
returns-clause-same g c = grind (arith, common_steps, joined-push, joined-same)
