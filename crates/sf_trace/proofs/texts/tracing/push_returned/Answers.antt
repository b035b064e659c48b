use Rattle.sf_trace.proofs.Common.{string_bytes, decimal, on_ok_weaker, action_bits, action_of, data_bits, action_text, stands_text}
use Rattle.sf_trace.proofs.TraceLemmas.{return_parts}
use Rattle.sf_trace.proofs.texts.tracing.push_returned.Goals as goal

pub returns : goal.returns
returns c = on_ok_weaker c.write-2.result
    (λ e. return_parts (string_bytes c.args.text.now) (string_bytes c.write.new.self)
    (string_bytes c.push_action.new.text) (string_bytes c.write-2.new.self) (decimal c.args.number)
    (action_text (action_of (action_bits c.args.value))) (decimal (data_bits c.args.value)) (decimal c.args.place)
    c.stands_word-mark.result.now (stands_text c.args.stands) c.in_ok-write.ensures.bytes
    (rw c.of_number-action.ensures at c.in_ok-push_action.ensures) c.stands_word-mark.ensures e)
    c.write-2.ensures.bytes
