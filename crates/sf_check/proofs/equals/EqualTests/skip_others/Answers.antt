use Rattle.sf_check.proofs.Common.{refl, arith}
use Rattle.sf_check.proofs.equals.EqualLemmas.{skipped_one_more}
use Rattle.sf_check.proofs.equals.EqualTests.skip_others.Goals as goal

pub skip_in_chain-more-requires-clause-inside : goal.skip_in_chain-more-requires-clause-inside
skip_in_chain-more-requires-clause-inside c =
    let test = c.in-Some.ensures.some in
    c.requires.tables.inside c.loop-next.behind test.0 c.in-Some.next test.2

pub loop-next-preserved : goal.loop-next-preserved
loop-next-preserved c =
    let test = c.in-Some.ensures.some in
    let more = c.skip_in_chain-more.ensures in
    let before = c.loop-next.invariant in
    record {
      skipped = skipped_one_more c.args.insns.now c.args.number c.loop-next.count c.skip_in_chain-more.result.count _
          test.0 c.args.place c.loop-next.behind c.in-Some.next c.skip_in_chain-more.result.behind before.skipped
          test.1 test.2 more.skipped refl;
      inside = more.inside;
      few = omega (arith, before.few, more.on, test.2.leads);
    }
