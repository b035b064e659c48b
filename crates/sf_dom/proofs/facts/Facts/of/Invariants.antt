use Rattle.sf_dom.proofs.Common.{take, Covers, AreBuiltBy}
use Rattle.sf_dom.proofs.facts.Facts.of.Given as goal

abbrev pub invariant-loop-cond : goal.invariant-loop-cond
invariant-loop-cond l = record {
  covers : Covers l.facts l.pool;
  built : AreBuiltBy l.facts l.pool (take l.cond-index l.conds);
}
