use Rattle.sf_trace.proofs.Common.{◌≡◌, map, take, flat_map, view, shown_meeting}
use Rattle.sf_trace.proofs.document.steps.met_documents.Given as goal

abbrev pub invariant-loop-meeting : goal.invariant-loop-meeting
invariant-loop-meeting l = map view l.documents.items ≡ flat_map (shown_meeting l.brief) (take l.meeting-index l.met)
