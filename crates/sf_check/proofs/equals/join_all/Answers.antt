use Rattle.sf_check.proofs.Common.{arith, common_steps, slice_get-get_or}
use Rattle.sf_check.proofs.equals.EqualLemmas.{test_here}
use Rattle.sf_check.proofs.equals.join_all.Goals as goal

pub join-requires-clause-inside : goal.join-requires-clause-inside
join-requires-clause-inside c =
    let here = slice_get-get_or c.args.insns.now c.loop-place.place _ c.loop-place-test.true in
    c.requires.inside c.loop-place.place c.in-Some.test.number _
    (test_here c.args.insns.now c.loop-place.place c.in-Some.test.number c.in-Some.test.skips _ here c.in-Some.ensures)

pub join-requires-clause-test : goal.join-requires-clause-test
join-requires-clause-test c = grind (arith, common_steps, slice_get-get_or, test_here)
