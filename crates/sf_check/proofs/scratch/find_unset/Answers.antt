use Rattle.sf_check.proofs.Common.{common_steps, arith, refl, length, slice_get-get_or, slice_get_within}
use Rattle.sf_check.proofs.scratch.MaskLemmas.{known_start, known_step, load_is_unset}
use Rattle.sf_check.proofs.scratch.find_unset.Goals as goal

pub loop-place-init : goal.loop-place-init
loop-place-init c = rw c.requires.start (known_start c.args.code.now (length c.args.code.now) refl c.requires.some)

pub loads_unset-requires : goal.loads_unset-requires
loads_unset-requires c = search (arith, slice_get-get_or)

pub set_after-after-requires : goal.set_after-after-requires
set_after-after-requires c = search (arith, slice_get-get_or)

pub narrow_successors-requires-clause-inside : goal.narrow_successors-requires-clause-inside
narrow_successors-requires-clause-inside c = grind (arith, common_steps, slice_get-get_or)

pub returns-then-loads_unset-clause-some : goal.returns-then-loads_unset-clause-some
returns-then-loads_unset-clause-some c = search (arith, slice_get-get_or, load_is_unset)

pub loop-place-preserved : goal.loop-place-preserved
loop-place-preserved c = search (arith, slice_get-get_or, known_step)

pub returns-clause-none : goal.returns-clause-none
returns-clause-none c at k earlier loads path =
    c.loop-place.invariant.all_set at (omega (arith, slice_get_within c.args.code.now at loads.0 loads.1)) k
    earlier loads path
