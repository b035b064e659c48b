use Rattle.sf_trace.proofs.Common.{◌≡◌, ◌++◌, take, string_bytes, flat_map, shown_line}
use Rattle.sf_trace.proofs.texts.tracing.push_meetings.Given as goal

abbrev pub invariant-loop-meeting : goal.invariant-loop-meeting
invariant-loop-meeting l = string_bytes l.text ≡ string_bytes l.initial.text
    ++ flat_map (shown_line l.brief l.number) (take l.meeting-index l.met)
