use Rattle.sf_trace.proofs.Common.{string_bytes, decimal, on_ok_weaker, compared_text, named_text, word_text}
use Rattle.sf_trace.proofs.TraceLemmas.{test_parts}
use Rattle.sf_trace.proofs.texts.tracing.push_meeting.Goals as goal

pub returns : goal.returns
returns c =
    let step = c.step_of-step.result in
    rw (← c.step_of-step.ensures) (on_ok_weaker c.push_compared.result
    (λ e. test_parts (string_bytes c.args.text.now) (string_bytes c.write.new.self) (string_bytes c.push_name.new.text)
    (string_bytes c.push_word.new.text) (string_bytes c.push_compared.new.text) (decimal c.args.number)
    (decimal c.args.meeting.place) (named_text step.word) (word_text step.value) (compared_text step.compared)
    c.in_ok-write.ensures.bytes c.in_ok-push_name.ensures c.in_ok-push_word.ensures e)
    c.push_compared.ensures)
