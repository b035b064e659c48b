use Rattle.sf_trace.proofs.Common.{codes, string_bytes, on_ok_weaker, added_two, cause_text}
use Rattle.sf_trace.proofs.texts.why.push_caused.Goals as goal

pub returns : goal.returns
unfolding cause_text
returns c =
    let line = added_two (string_bytes c.args.text.now) _ _ (codes "why ") _ c.in_ok-push_str.ensures.bytes
    c.in_ok-push_returned.ensures in
    rw (← c.run.view_is) (on_ok_weaker c.push_cause.result
    (λ e. added_two _ _ _ _ _ line (rw c.deref.ensures.value at e)) c.push_cause.ensures)
