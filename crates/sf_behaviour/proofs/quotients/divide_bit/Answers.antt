use Rattle.sf_behaviour.proofs.Common.{ℕ, ◌+◌, ◌-◌, ◌*◌, ◌%◌, ◌^◌, sym, ap, ap₂, ◌∙◌, if◌then◌else◌, pow_pos, apply, Bits, value, tree_at, chosen_of, word_value, nat_le, Sub, keeps_both}
use Rattle.sf_behaviour.proofs.words.WordLemmas.{own-number, truth-kept, value-kept, word-by, word-kept, word-of-kept, word-small}
use Rattle.sf_behaviour.proofs.quotients.QuotientLemmas.{digit-of}
use Rattle.sf_behaviour.proofs.quotients.divide_bit.Goals as goal

pub test_words-requires-clause-a : goal.test_words-requires-clause-a
test_words-requires-clause-a c =
    (c.move_bits-high.ensures c.args.store.now.trees _ (own-number c.requires.rest) c.requires.zero).word

pub difference-requires-clause-b : goal.difference-requires-clause-b
difference-requires-clause-b c = word-kept c.in_ok-fits.ensures.store.0.trees
    (c.move_bits-moved.ensures c.args.store.now.trees _ (own-number c.requires.b) c.requires.zero).word

pub returns-clause-digit : goal.returns-clause-digit
returns-clause-digit c = λ f b_is bits less.
    let s0 = c.args.store.now.trees in
    let s2 = c.difference.new.store.trees in
    let k1 = c.in_ok-fits.ensures.store.0.trees in
    let k2 = c.in_ok-reduced.ensures.store.0.trees in
    let k3 = c.in_ok-left.ensures.store.0.trees in
    let fits = c.in_ok-fits.ensures.truth in
    let rest = own-number c.requires.rest in
    let high = c.move_bits-high.ensures s0 _ rest c.requires.zero in
    let moved = c.move_bits-moved.ensures s0 f b_is c.requires.zero in
    let reduced = word-by (λ (x : Bits). apply Sub) (word-of-kept k1 rest) (word-of-kept k1 moved)
    c.in_ok-reduced.ensures.word in
    let left = word-by (λ (x : Bits). chosen_of (value (tree_at s2 c.in_ok-fits.fits) x)) reduced
    (word-of-kept (keeps_both k1 k2) rest) c.in_ok-left.ensures.word in
    let r = word_value s0 c.args.rest.now.bits bits in
    digit-of r (f bits) (2 ^ c.args.bit) _ _ (pow_pos c.args.bit) (word-small bits c.requires.rest) less
    (value-kept bits (keeps_both k2 k3) fits.truth ∙ fits.values bits
    ∙ ap₂ (λ (m n : ℕ). if nat_le m n then 1 else 0) (b_is.values bits) (high.values bits))
    (left.values bits ∙ ap (λ (t : ℕ). chosen_of t ((r + (2 ^ 32 - (f bits * 2 ^ c.args.bit) % 2 ^ 32)) % 2 ^ 32) r)
    (sym (value-kept bits k3 (truth-kept k2 fits.truth))))
