use Rattle.sf_behaviour.proofs.Common.{[], ◌∷◌, ◌++◌, arith, keeps_more, common_steps}
use Rattle.sf_behaviour.proofs.answers.AnswerLemmas.{fold-more}
use Rattle.sf_behaviour.proofs.answers.behaviour.Goals as goal

pub loop-program-preserved : goal.loop-program-preserved
loop-program-preserved c =
    let ps = c.loop-program.invariant.programs in
    let p = c.in-Some.program.now in
    record {
      keeps = keeps_more _ _ _ c.loop-program.invariant.keeps
          (keeps_more _ _ _ c.in_ok-older.ensures.store.0 c.in_ok-so_far-2.ensures.keeps);
      programs = ps ++ p ∷ [];
      given = grind (arith, common_steps);
      answers = fold-more ps p _ _ _ c.loop-program.so_far c.in_ok-older.older c.in_ok-so_far-2.so_far
          c.loop-program.invariant.answers c.in_ok-older.ensures.store.0.trees c.in_ok-older.ensures.number
          c.in_ok-older.ensures.small c.in_ok-so_far-2.ensures.within c.in_ok-so_far-2.ensures.merged;
    }
