use Rattle.sf_behaviour.proofs.Common.{◌≡◌, ◌+◌, ◌-◌, arith, keeps_more}
use Rattle.sf_behaviour.proofs.words.WordLemmas.{bit-now, word-small}
use Rattle.sf_behaviour.proofs.answers.AnswerLemmas.{number-more}
use Rattle.sf_behaviour.proofs.words.number_diagram.Goals as goal

pub loop-i-init : goal.loop-i-init
loop-i-init c = record {
  keeps = c.in_ok-number.ensures.keeps;
  within = c.in_ok-number.ensures.within;
  so_far = λ bits. rw c.in_ok-number.ensures.tree (omega (arith, word-small bits c.requires));
}

pub loop-i-preserved : goal.loop-i-preserved
loop-i-preserved c =
    let h = c.loop-i.invariant in
    let new = c.in_ok-number-2.ensures in
    let i = c.loop-i.i in
    let next : 31 - i ≡ 32 - (i + 1) = omega arith in
    record {
      keeps = keeps_more _ _ _ h.keeps new.keeps;
      within = new.within;
      so_far = λ bits. rw (← next) (number-more (32 - i) (31 - i) _ (omega arith) (word-small bits c.requires)
          (bit-now (31 - i) bits h.keeps.trees c.requires (omega arith)) (new.merged.values bits) (h.so_far bits));
    }
