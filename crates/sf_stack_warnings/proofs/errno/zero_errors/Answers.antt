use Rattle.sf_stack_warnings.proofs.Common.{◌≡◌, length, arith}
use Rattle.sf_stack_warnings.proofs.errno.ZeroErrorLemmas.{first_added}
use Rattle.sf_stack_warnings.proofs.errno.zero_errors.Goals as goal

pub loop-place-init : goal.loop-place-init
loop-place-init c =
    first_added c.args.settled.now c.new-numbers.result.items c.new-seen.result.keys c.new-numbers.ensures.items
    c.new-seen.ensures.empty

pub returns : goal.returns
returns c =
    let end : c.loop-place.place ≡ length c.args.settled.now.regions =
    omega (arith, c.loop-place-test.false, c.region_count-place-end.ensures.value, c.loop-place.auto.place-end) in
    record {
      numbers = rw end at c.loop-place.invariant.found;
      plain = λ plain. rw end at (c.loop-place.invariant.plain plain);
    }
