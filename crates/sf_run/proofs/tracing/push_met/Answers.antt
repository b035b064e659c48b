use Rattle.sf_run.proofs.Common.{append-nil, None, refl, state_of}
use Rattle.sf_run.proofs.WalkLemmas.{met_by_meeting}
use Rattle.sf_run.proofs.tracing.push_met.Goals as goal

pub returns-in_ok-push-in-Some-Tested : goal.returns-in_ok-push-in-Some-Tested
returns-in_ok-push-in-Some-Tested c =
    let here = met_by_meeting (state_of 0 c.args.machine.now) None c.args.insn.now _
    (rw c.in-Some-Tested.field-0-is at (c.in-Some-Tested.ensures 0 None)) in
    record { pushed = rw here c.in_ok-push-in-Some-Tested.ensures.items }

pub returns-in_ok-push-in-Some-Divided : goal.returns-in_ok-push-in-Some-Divided
returns-in_ok-push-in-Some-Divided c =
    let here = met_by_meeting (state_of 0 c.args.machine.now) None c.args.insn.now _
    (rw c.in-Some-Divided.field-0-is at (c.in-Some-Divided.ensures 0 None)) in
    record { pushed = rw here c.in_ok-push-in-Some-Divided.ensures.items }

pub returns-in_ok-push_bits-in-Some-Returned : goal.returns-in_ok-push_bits-in-Some-Returned
returns-in_ok-push_bits-in-Some-Returned c =
    let here = met_by_meeting (state_of 0 c.args.machine.now) None c.args.insn.now _
    (rw c.in-Some-Returned.field-0-is at (c.in-Some-Returned.ensures 0 None)) in
    record { pushed = rw (here, append-nil _) c.in_ok-push_bits-in-Some-Returned.ensures.pushed }

pub returns-in-None : goal.returns-in-None
returns-in-None c =
    let here = met_by_meeting (state_of 0 c.args.machine.now) None c.args.insn.now _ (c.in-None.ensures 0 None) in
    record { pushed = rw (here, append-nil c.args.met.now.items) refl }
