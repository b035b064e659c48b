use Rattle.sf_behaviour.proofs.Common.{◌≡◌, arith, apply, keeps_more, Add}
use Rattle.sf_behaviour.proofs.words.WordLemmas.{bit-chosen, none-bit, number-now, word-by, word-of-kept, word-of-same, word-small}
use Rattle.sf_behaviour.proofs.ShiftLemmas.{product-step, product-made}
use Rattle.sf_behaviour.proofs.products.product.Goals as goal

pub combine-requires-clause-a : goal.combine-requires-clause-a
combine-requires-clause-a c =
    let h = c.loop-i.invariant in
    (c.move_bits-moved.ensures c.loop-i.store.trees _ (number-now h.keeps.trees c.requires.a)
    (none-bit 0 h.none (omega arith))).word

pub loop-i-preserved : goal.loop-i-preserved
loop-i-preserved c =
    let h = c.loop-i.invariant in
    let row = c.in_ok-row.ensures in
    let new = c.in_ok-total.ensures in
    let kept = keeps_more _ _ _ row.store.0 new.store.0 in
    let moved = c.move_bits-moved.ensures c.loop-i.store.trees _ (number-now h.keeps.trees c.requires.a)
    (none-bit 0 h.none (omega arith)) in
    let chosen = bit-chosen c.loop-i.i h.keeps.trees c.requires.b (omega arith) moved h.none row.word in
    record {
      keeps = keeps_more _ _ _ h.keeps kept;
      none = word-of-kept kept.trees h.none;
      total = word-of-same (word-by (λ bits. apply Add) (word-of-kept row.store.0.trees h.total) chosen new.word)
          (λ bits. product-step c.loop-i.i _ _);
    }

pub returns-clause-word : goal.returns-clause-word
returns-clause-word c =
    let all : c.loop-i.i ≡ 32 = omega arith in
    word-of-same c.loop-i.invariant.total (λ bits. product-made c.loop-i.i _ _ all (word-small bits c.requires.b))
