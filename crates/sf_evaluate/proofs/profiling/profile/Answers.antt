use Rattle.sf_evaluate.proofs.profiling.ProfilingLemmas.{profile_refused, profile_written}
use Rattle.sf_evaluate.proofs.profiling.profile.Goals as goal
use Rattle.sf_evaluate.proofs.profiling.profile.Goals.{in-Profile, in-Other}

pub returns-in-Ok-clause-done : goal.returns-in-Ok-clause-done
returns-in-Ok-clause-done g c = λ zero.
    profile_written _ _ _ _ _ _ _ _ _ _ c.in_ok-settings.ensures.same c.text_of.ensures c.in_ok-bytes.ensures.bytes
    c.deref.ensures.value c.in_ok-settings.ensures.read c.wants_notes-with_notes.ensures c.in-Ok.ensures.written

pub returns-clause-refused : goal.returns-clause-refused
returns-clause-refused g c =
    let why = profile_refused _ _ _ _ _ _ _ _ c.in_ok-settings.ensures.same c.text_of.ensures
    c.in_ok-bytes.ensures.bytes c.deref.ensures.value c.in_ok-settings.ensures.read c.in-Err.ensures.refused in
    elim c.match-fault.branch [ in-Profile w ↦ rw w.result-is why | in-Other w ↦ rw w.result-is why ]
