use Rattle.sf_behaviour.proofs.Common.{◌≡◌, ◌+◌, ◌*◌, ◌^◌, arith, rules, value, tree_at, keeps_more}
use Rattle.sf_behaviour.proofs.words.WordLemmas.{begun-above, bit-now, word-made, word-of-same, word-small}
use Rattle.sf_behaviour.proofs.BitLemmas.{more-small, leaf-truth, less-all, less-step}
use Rattle.sf_behaviour.proofs.differences.difference.Goals as goal

pub loop-i-init : goal.loop-i-init
loop-i-init c =
    let zero = leaf-truth 0 {ts = c.leaf.new.self.trees} c.in_ok-borrowed.ensures.within
    c.in_ok-borrowed.ensures.tree (omega arith) in
    record {
      keeps = c.in_ok-borrowed.ensures.keeps;
      borrowed = zero.truth;
      made = λ bits. 0;
      begun = search rules;
      small = λ bits. omega arith;
      so_far = λ bits. omega (arith, zero.values bits);
    }

pub loop-i-preserved : goal.loop-i-preserved
loop-i-preserved c =
    let vs = c.difference_bit.new.store.trees in
    let h = c.loop-i.invariant in
    let e = c.in_ok-bit.ensures in
    let i = c.loop-i.i in
    record {
      keeps = keeps_more _ _ _ h.keeps e.store.0;
      borrowed = e.borrows;
      made = λ bits. value (tree_at vs c.in_ok-bit.bit) bits * 2 ^ i + h.made bits;
      begun = begun-above i e.store.0.trees (omega arith) h.begun h.small e.bit;
      small = λ bits. more-small i _ _ (e.bit.small bits) (h.small bits);
      so_far = λ bits. less-step i _ _ _ _ _ _
          (bit-now i bits h.keeps.trees c.requires.a (omega arith))
          (bit-now i bits h.keeps.trees c.requires.b (omega arith)) (e.value bits) (h.so_far bits);
    }

pub returns-clause-word : goal.returns-clause-word
returns-clause-word c =
    let h = c.loop-i.invariant in
    let e : c.loop-i.i ≡ 32 = omega arith in
    word-of-same (word-made c.loop-i.i e (λ bits. rw e at (h.small bits)) h.begun) (λ bits.
    less-all c.loop-i.i _ _ _ _ e (word-small bits c.requires.a) (word-small bits c.requires.b) (h.small bits)
    (h.so_far bits))
