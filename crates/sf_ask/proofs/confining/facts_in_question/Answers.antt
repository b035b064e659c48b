use Rattle.sf_ask.proofs.Common.{◌≡◌, arith}
use Rattle.sf_ask.proofs.Words.{mapped-at, of-true, before-none, before-more, before-all}
use Rattle.sf_ask.proofs.Confinements.{none-before, one-more, cant-at-turn}
use Rattle.sf_ask.proofs.confining.facts_in_question.Goals as goal

pub loop-word-init : goal.loop-word-init
loop-word-init c =
    let same : c.in_ok-confined.confined ≡ c.args.facts.now =
    mapped-at _ _ c.fork.result c.map_err.result c.in_ok-confined.confined c.map_err.ensures.cases c.fork.ensures
    c.in_ok-confined.was in
    rw same ((search (arith, before-none, none-before)))

pub loop-word-preserved : goal.loop-word-preserved
loop-word-preserved c =
    let q = c.args.question.now in
    let ns = c.args.pool.now in
    record {
      confined = before-more q c.loop-word.word c.args.facts.now c.loop-word.confined c.confine_word.new.facts ns
          c.requires c.loop-word.invariant.confined (of-true _ c.in_ok-confine_word.field-0 c.if-not-branch.false
          c.in_ok-confine_word.ensures.confined);
      rule = one-more q c.loop-word.word ns c.args.facts.now c.loop-word.confined c.confine_word.new.facts
          c.loop-word.invariant.rule (of-true _ c.in_ok-confine_word.field-0 c.if-not-branch.false
          c.in_ok-confine_word.ensures.rule);
    }

pub returns-clause-confined : goal.returns-clause-confined
returns-clause-confined c = before-all c.args.question.now c.loop-word.word c.args.facts.now c.loop-word.confined
    c.args.pool.now (omega arith) c.loop-word.invariant.confined

pub returns-then-not-branch-clause-rule : goal.returns-then-not-branch-clause-rule
returns-then-not-branch-clause-rule c =
    cant-at-turn c.rules_have_one_result.ensures c.args.pool.now c.requires.pool c.args.question.now c.loop-word.word
    c.args.facts.now c.loop-word.confined c.loop-word-test.true c.loop-word.invariant.rule
    (rw c.if-not-branch.true at c.in_ok-confine_word.ensures.rule)
