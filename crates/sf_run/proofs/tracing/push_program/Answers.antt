use Rattle.sf_run.proofs.Common.{arith, ◌∙◌, suc, List, ◌++◌, ap, slice_get-get_or, Insn, met_by, state_of, safe_start, met_is}
use Rattle.sf_run.proofs.Steps.{lent_lawful, at_hand, goes_on, goes_out}
use Rattle.sf_run.proofs.MeetingLemmas.{met_goes_on, met_ends}
use Rattle.sf_run.proofs.tracing.push_program.Goals as goal

pub loop-machine-init : goal.loop-machine-init
loop-machine-init c = search (arith, lent_lawful, safe_start, met_is)

pub execute-requires-clause-in_range : goal.execute-requires-clause-in_range
execute-requires-clause-in_range c = search (arith, lent_lawful, slice_get-get_or)

pub execute-requires-clause-set : goal.execute-requires-clause-set
execute-requires-clause-set c =
    let s = state_of c.loop-machine.place c.loop-machine.machine in
    (at_hand _ c.insns-code.result.now s _ c.insns-code.ensures.same c.insns-code.ensures.lawful
    c.loop-machine.invariant.safe).set

pub loop-machine-preserved : goal.loop-machine-preserved
loop-machine-preserved c =
    let code = c.insns-code.result.now in
    let d = c.args.input.now in
    let m = c.loop-machine.machine in
    let s = state_of c.loop-machine.place m in
    let before = c.loop-machine.invariant in
    let h = at_hand _ code s _ c.insns-code.ensures.same c.insns-code.ensures.lawful before.safe in
    let on = goes_on code d s _ c.in-Goes.next c.execute.new.machine h c.in-Goes.ensures in
    record {
      safe = on.safe;
      same = λ n o rest. met_goes_on code d c.loop-machine.place m.a m.x m.scratch _ on.met
          (state_of c.in-Goes.next c.execute.new.machine) c.loop-machine.met.items c.push_met.new.met.items o.0 _
          on.took c.in_ok-push_met.ensures.pushed (before.same (suc n) (on.met ++ o.0, o.1) (on.more n o rest));
    }

pub returns-in-Returns : goal.returns-in-Returns
returns-in-Returns c =
    let code = c.insns-code.result.now in
    let d = c.args.input.now in
    let v = c.in-Returns.field-0 in
    let m = c.loop-machine.machine in
    let s = state_of c.loop-machine.place m in
    let before = c.loop-machine.invariant in
    let h = at_hand _ code s _ c.insns-code.ensures.same c.insns-code.ensures.lawful before.safe in
    let out = goes_out code d s _ v c.execute.new.machine h c.in-Returns.ensures in
    record {
      pushed = met_ends code d c.loop-machine.place m.a m.x m.scratch _ out.met v c.loop-machine.met.items
          c.push_met.new.met.items _ out.took c.in_ok-push_met.ensures.pushed (before.same 1 (out.met, v) out.ends)
          ∙ ap (λ (p : List Insn). c.args.met.now.items ++ met_by p d) c.insns-code.ensures.same;
    }
