use Rattle.sf_trace.proofs.Common.{◌+◌, [], drop, append-nil, refl, drop_all, AreFilterLines}
use Rattle.sf_trace.proofs.ListingLemmas.{one_filter_listed}
use Rattle.sf_trace.proofs.texts.push_filters.Goals as goal

pub loop-i-preserved : goal.loop-i-preserved
loop-i-preserved c rest rested =
    let (under, stands, pushed) = c.in_ok-push_under.ensures in
    one_filter_listed c.args.listed c.loop-i.i c.args.programs.now _ under rest _ _ _ _ c.index-programs-i.is
    c.loop-i-test.true (rw c.insns.ensures.same at c.in_ok-push_filter.ensures) stands pushed c.loop-i.invariant
    rested

pub returns : goal.returns
returns c =
    let none : AreFilterLines c.args.listed (c.loop-i.i + 1) (drop c.loop-i.i c.args.programs.now) [] =
    rw (drop_all c.loop-i.i c.args.programs.now c.loop-i-test.false) refl in
    let (lines, are, same) = c.loop-i.invariant [] none in
    (lines, are, rw append-nil at same)
