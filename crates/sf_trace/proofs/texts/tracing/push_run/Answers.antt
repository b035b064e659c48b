use Rattle.sf_trace.proofs.Common.{on_ok_weaker, added_two, walk_text}
use Rattle.sf_trace.proofs.texts.tracing.push_run.Goals as goal

pub returns : goal.returns
unfolding walk_text
returns c = rw (← c.run.view_is) (on_ok_weaker c.push_meetings.result
    (λ e. added_two _ _ _ _ _ c.in_ok-push_returned.ensures (rw c.deref.ensures.value at e)) c.push_meetings.ensures)
