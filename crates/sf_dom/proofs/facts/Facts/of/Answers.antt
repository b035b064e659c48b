use Rattle.sf_dom.proofs.Common.{arith, take_all}
use Rattle.sf_dom.proofs.Builds.{built-more, none-built}
use Rattle.sf_dom.proofs.facts.Facts.of.Goals as goal

pub loop-cond-preserved : goal.loop-cond-preserved
loop-cond-preserved c = record {
  covers = c.learn.ensures.covers;
  built = built-more c.args.conds.now c.loop-cond.cond-index _ c.loop-cond.facts _ c.args.pool.now (omega arith)
      c.loop-cond.invariant.built (rw c.if-not-branch.false at c.in_ok-learn.ensures.rule);
}

pub returns-clause-rule : goal.returns-clause-rule
returns-clause-rule c = rw (take_all c.loop-cond.cond-index c.args.conds.now (omega arith)) at
    c.loop-cond.invariant.built

pub returns-then-not-branch-clause-rule : goal.returns-then-not-branch-clause-rule
returns-then-not-branch-clause-rule c =
    none-built c.args.conds.now c.loop-cond.cond-index _ c.loop-cond.facts c.args.pool.now (omega arith)
    c.loop-cond.invariant.built (rw c.if-not-branch.true at c.in_ok-learn.ensures.rule)
