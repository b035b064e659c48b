use Rattle.sf_behaviour.proofs.Common.{ℕ, ap, ◌∙◌, tested_bits, tree_at, value, ◌≡◌, ap₂, arith, keeps_more}
use Rattle.sf_behaviour.proofs.words.WordLemmas.{bit-now, truth-of-same, word-small}
use Rattle.sf_behaviour.proofs.BitLemmas.{low-all, test-more, truth_of}
use Rattle.sf_behaviour.proofs.testing.test_words.Goals as goal

pub loop-i-preserved : goal.loop-i-preserved
loop-i-preserved c =
    let h = c.loop-i.invariant in
    let new = c.in_ok-passed-2.ensures in
    let test = c.args.test in
    let i = c.loop-i.i in
    let so_far = value (tree_at c.loop-i.store.trees c.loop-i.passed) in
    record {
      keeps = keeps_more _ _ _ h.keeps new.store.0;
      passed = truth-of-same new.truth (λ bits.
          ap₂ (λ (m n : ℕ). tested_bits test m n (so_far bits))
          (bit-now i bits h.keeps.trees c.requires.a (omega arith))
          (bit-now i bits h.keeps.trees c.requires.b (omega arith))
          ∙ ap (tested_bits test _ _) (h.passed.values bits) ∙ test-more test i _ _);
    }

pub returns-clause-truth : goal.returns-clause-truth
returns-clause-truth c =
    let e : c.loop-i.i ≡ 32 = omega arith in
    truth-of-same c.loop-i.invariant.passed (λ bits. ap₂ (truth_of c.args.test)
    (low-all c.loop-i.i _ e (word-small bits c.requires.a)) (low-all c.loop-i.i _ e (word-small bits c.requires.b)))
