use Rattle.sf_ask.proofs.Common.{sym, ◌∙◌}
use Rattle.sf_ask.proofs.probe.ProbeLemmas.{rules-out-at}
use Rattle.sf_ask.proofs.confining.rules_out.Goals as goal

pub returns-then-misses : goal.returns-then-misses
returns-then-misses c = λ t.
    rules-out-at c.args.question.now c.loop-word.word c.args.facts.now c.loop-word-test.true
    (rw c.range-low.ensures at (sym c.is_whole.ensures ∙ c.if-not-is_whole.true))
    (rw c.range-low.ensures at (c.misses.ensures c.if-misses.true))
