-- Variables that make the same input.
use Rattle.std.proofs.Common.{◌≡◌, ℕ, ◌+◌, ◌<◌}
use Rattle.sf_relations.specs.Common.{IsInput, Bits, input_by}
use Rattle.sf_behaviour.specs.laws.InputLaws.{input_by-same}

-- variables that agree behind those of registers make one input
pub same-input : (a b : Bits) → ((bits : Bits) → IsInput (input_by bits))
    → ((p : ℕ) → p < 512 → a (576 + p) ≡ b (576 + p)) → input_by a ≡ input_by b
same-input a b inputs same = input_by-same a b same
