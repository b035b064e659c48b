use Rattle.sf_behaviour.proofs.Common.{◌≡◌, ◌+◌, ◌-◌, ◌*◌, ◌/◌, ◌<◌, ◌≤◌, ◌^◌, ◌==◌, ℕ, ap₂, sym, ◌∙◌, arith, bit_at, div-le_self, if◌then◌else◌, keeps_more, mod-eq_of_lt, same_from_bits_below, chosen_of, Bits, value, tree_at, word_value}
use Rattle.sf_behaviour.proofs.words.WordLemmas.{bit-of-word, none-bit, number-kept, number-now, set-each, value-kept, word-by, word-kept, word-of-kept, word-of-same, word-set, word-small}
use Rattle.sf_behaviour.proofs.quotients.QuotientLemmas.{digit-more, quotient-made}
use Rattle.sf_behaviour.proofs.quotients.quotient.Goals as goal

pub loop-i-init : goal.loop-i-init
loop-i-init c =
    let kept = c.in_ok-none.ensures.store.0 in
    let a = word_value c.args.store.now.trees c.args.a.now.bits in
    let b = word_value c.args.store.now.trees c.args.b.now.bits in
    record {
      keeps = kept;
      none = c.in_ok-none.ensures.word;
      rest = word-kept kept.trees c.requires.a;
      made = c.in_ok-none.ensures.word.word;
      digits = λ j bits low l some. absurd (omega arith);
      left = λ bits some.
          let small : a bits < b bits * 2 ^ 32 = omega (arith, word-small bits c.requires.a) in
          number-kept bits kept.trees c.requires.a ∙ sym (mod-eq_of_lt small);
    }

pub divide_bit-requires-clause-zero : goal.divide_bit-requires-clause-zero
divide_bit-requires-clause-zero c = none-bit 0 c.loop-i.invariant.none (omega arith)

pub loop-i-preserved : goal.loop-i-preserved
loop-i-preserved c =
    let h = c.loop-i.invariant in
    let new = c.in_ok-bit.ensures in
    let kept = new.store.0.trees in
    let i = c.loop-i.i in
    let vs = c.divide_bit.new.store.trees in
    let a = word_value c.args.store.now.trees c.args.a.now.bits in
    let b = word_value c.args.store.now.trees c.args.b.now.bits in
    let before : 31 - i ≡ 32 - (i + 1) = omega arith in
    let next = λ (bits : Bits) (some : 0 < b bits). digit-more (31 - i) (32 - i) (a bits) _ (omega arith) some
    (new.bit.small bits) (h.left bits some) (new.digit b (number-now h.keeps.trees c.requires.b) bits) in
    record {
      keeps = keeps_more _ _ _ h.keeps new.store.0;
      none = word-of-kept kept h.none;
      rest = new.left;
      made = word-set (31 - i) kept (omega arith) h.made new.bit;
      digits = λ j bits low l some. set-each
          (λ (k id : ℕ). 32 - (i + 1) ≤ k → value (tree_at vs id) bits ≡ bit_at (a bits / b bits) k) 0 c.loop-i.bits
          (31 - i) c.in_ok-bit.bit j (omega (arith, h.made.count)) (λ at. (next bits some).0)
          (λ ne at. value-kept bits kept (h.made.each j l) ∙ h.digits j bits (omega arith) l some) low;
      left = λ bits some. rw (← before) (next bits some).1;
    }

pub returns-clause-word : goal.returns-clause-word
returns-clause-word c =
    let h = c.loop-i.invariant in
    let zero = c.in_ok-by_zero.ensures in
    let a = word_value c.args.store.now.trees c.args.a.now.bits in
    let b = word_value c.args.store.now.trees c.args.b.now.bits in
    let is_zero = value (tree_at c.test_words.new.store.trees c.in_ok-by_zero.by_zero) in
    let word = word-by (λ (x : Bits). chosen_of (is_zero x)) (word-of-kept zero.store.0.trees h.none)
    (number-now zero.store.0.trees h.made) c.in_ok-combine.ensures.word in
    word-of-same word (λ bits. quotient-made (a bits) (b bits) _ _ (zero.truth.values bits
    ∙ ap₂ (λ (m n : ℕ). if m == n then 1 else 0) (number-kept bits h.keeps.trees c.requires.b) (h.none.values bits))
    (λ some. same_from_bits_below 32 _ _ (word-small bits h.made)
    (omega (arith, div-le_self (a bits) (b bits), word-small bits c.requires.a))
    (λ j l. bit-of-word bits j h.made l ∙ h.digits j bits (omega arith) l some)))
