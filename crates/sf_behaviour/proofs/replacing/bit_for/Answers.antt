use Rattle.sf_behaviour.proofs.Common.{Bool, ap, sym, ◌∙◌, bit_at, bit_at-lt, if◌then◌else◌}
use Rattle.sf_behaviour.proofs.words.WordLemmas.{bit-of, truth-of-same}
use Rattle.sf_behaviour.proofs.BitLemmas.{bit-if}
use Rattle.sf_behaviour.proofs.VariableLemmas.{with-own}
use Rattle.sf_behaviour.proofs.replacing.bit_for.Goals as goal

-- a bit of the word that stands in the place of the register
pub returns-in-Some-clause-truth : goal.returns-in-Some-clause-truth
returns-in-Some-clause-truth c = λ f h.
    let bit = c.in-Some.bit in
    truth-of-same (bit-of bit h c.in-Some.ensures.few) (λ bits. sym (ap (λ (b : Bool). if b then 1 else 0)
    (with-own c.args.register (f bits) bit c.args.variable bits (sym c.in-Some.ensures.bit))
    ∙ bit-if (bit_at (f bits) bit) (bit_at-lt (f bits) bit)))
