use Rattle.sf_check.proofs.Common.{arith, common_steps}
use Rattle.sf_check.proofs.equals.EqualLemmas.{skipped_to}
use Rattle.sf_check.proofs.equals.EqualTests.skip_in_chain.Goals as goal

pub steps_between-requires-clause-forward : goal.steps_between-requires-clause-forward
steps_between-requires-clause-forward c =
    let t = c.args.self.now in
    (skipped_to c.args.insns.now t.chains.items t.steps.items t.lasts.items c.args.place c.args.number
    c.find_test_or_last-behind.result c.requires.tables.chains_are
    (rw c.deref-2.ensures.value at c.find_test_or_last-behind.ensures)).forward

pub returns-clause-skipped : goal.returns-clause-skipped
returns-clause-skipped c = grind (arith, common_steps, skipped_to)

pub returns-clause-on : goal.returns-clause-on
returns-clause-on c =
    let t = c.args.self.now in
    rw c.steps_between.ensures (skipped_to c.args.insns.now t.chains.items t.steps.items t.lasts.items
    c.args.place c.args.number
    c.find_test_or_last-behind.result c.requires.tables.chains_are
    (rw c.deref-2.ensures.value at c.find_test_or_last-behind.ensures)).on
