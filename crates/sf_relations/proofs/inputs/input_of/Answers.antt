use Rattle.sf_relations.proofs.Common.{◌≡◌, ℕ, List, map, ap, arith, range_with_len, fill_by_all, Input, bits_with, input_number}
use Rattle.sf_relations.proofs.inputs.input_of.Goals as goal

pub returns : goal.returns
returns c =
    let bits = bits_with c.args.variables.now in
    let words : c.loop-word.words ≡ map (input_number bits) (range_with_len 0 16)
    = fill_by_all (input_number bits) c.loop-word.words 16 0 c.loop-word.invariant.count
    (λ k l. c.loop-word.invariant.each k (omega arith)) in
    ap (λ (ws : List ℕ). let d : Input = record { words = ws } in d) words
