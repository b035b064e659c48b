use Rattle.sf_trace.proofs.Common.{string_bytes, on_ok_weaker, added_three, call_text, first_arguments, last_arguments}
use Rattle.sf_trace.proofs.texts.tracing.push_fields.Goals as goal

pub returns : goal.returns
returns c =
    let d = c.args.input.now in
    let names = c.args.names.now in
    on_ok_weaker c.push_last_arguments.result
    (λ e. added_three (string_bytes c.args.text.now) (string_bytes c.push_call.new.text)
    (string_bytes c.push_first_arguments.new.text)
    (string_bytes c.push_last_arguments.new.text) (call_text names d) (first_arguments d) (last_arguments d)
    c.in_ok-push_call.ensures c.in_ok-push_first_arguments.ensures e)
    c.push_last_arguments.ensures
