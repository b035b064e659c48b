use Rattle.sf_behaviour.proofs.Common.{pow-add, arith, keeps_more}
use Rattle.sf_behaviour.proofs.words.WordLemmas.{bit-chosen, number-now, truth-of-kept, word-of-same, word-small}
use Rattle.sf_behaviour.proofs.BitLemmas.{leaf-truth}
use Rattle.sf_behaviour.proofs.ShiftLemmas.{few-places, shift-begun, shift-step}
use Rattle.sf_behaviour.proofs.shifting.shift.Goals as goal

pub loop-i-init : goal.loop-i-init
loop-i-init c =
    let zero = c.in_ok-zero.ensures in
    record {
      keeps = zero.keeps;
      none = leaf-truth 0 zero.within zero.tree (omega arith);
      places = omega arith;
      word = word-of-same (number-now zero.keeps.trees c.requires.word)
          (λ bits. shift-begun c.args.direction _ _ (word-small bits c.requires.word));
    }

pub move_bits-moved-requires : goal.move_bits-moved-requires
move_bits-moved-requires c = few-places c.loop-i.i c.loop-i.places c.loop-i-test.true c.loop-i.invariant.places

pub combine-requires-clause-a : goal.combine-requires-clause-a
combine-requires-clause-a c =
    (c.move_bits-moved.ensures c.loop-i.store.trees _ c.loop-i.invariant.word c.loop-i.invariant.none).word

pub loop-i-preserved : goal.loop-i-preserved
loop-i-preserved c =
    let h = c.loop-i.invariant in
    let new = c.in_ok-so_far.ensures in
    let moved = c.move_bits-moved.ensures c.loop-i.store.trees _ h.word h.none in
    record {
      keeps = keeps_more _ _ _ h.keeps new.store.0;
      none = truth-of-kept new.store.0.trees h.none;
      places = omega (arith, h.places, pow-add 2 c.loop-i.i 1);
      word = word-of-same (bit-chosen c.loop-i.i h.keeps.trees c.requires.by (omega arith) moved h.word new.word)
          (λ bits. shift-step c.args.direction c.loop-i.i _ _ c.loop-i.places h.places);
    }
