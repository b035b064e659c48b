-- The answer of a filter that returns the value of a response.
use Rattle.sf_profile.proofs.Common.{common_steps, ◌≡◌, ℕ, ◌+◌, ◌*◌, ◌^◌, ◌<◌, [], ◌∷◌, ◌∙◌, subst, arith, bit_and, and_block, and_le_r, and_mask, IsAnswer, folded_answer, answer_more, answer_none, Answer, Response, Allow, answer_of_response, returned_value_of}
use Rattle.sf_run.specs.declared.action.Action.TheVariants as actions

abbrev allow : Answer
allow = record { action = actions.Allow; info = 0 }

bits_is : (h n : ℕ) → n < 2 ^ 16 → bit_and (h * 2 ^ 16 + n) 0xffff0000 ≡ bit_and h 0xffff * 2 ^ 16
bits_is h n lt =
    let zero_is : bit_and n 0 ≡ 0 = omega (arith, and_le_r n 0) in
    let split = and_block 16 h 0xffff n 0 lt (omega arith) in
    split ∙ rw zero_is (omega arith)

data_is : (h n : ℕ) → n < 2 ^ 16 → bit_and (h * 2 ^ 16 + n) 0xffff ≡ n
data_is h n lt =
    and_mask (h * 2 ^ 16 + n) 16 ∙ omega arith

folded_is : (response : Response) → folded_answer allow (returned_value_of response) ≡ answer_of_response response
folded_is response = grind (arith, common_steps, bits_is, data_is)

-- a filter that returns the value of a response answers it
pub answers : (response : Response) → IsAnswer (returned_value_of response ∷ []) (answer_of_response response)
answers response =
    subst (λ a. IsAnswer (returned_value_of response ∷ []) a) (folded_is response)
    (answer_more [] allow (returned_value_of response) answer_none)
