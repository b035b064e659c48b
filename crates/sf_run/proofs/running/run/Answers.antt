use Rattle.sf_run.proofs.Common.{arith, ◌∙◌, suc, List, ◌++◌, ap, slice_get-get_or, Insn, return_of, state_of, safe_start, value_is}
use Rattle.sf_run.proofs.Steps.{lent_lawful, at_hand, goes_on, goes_out}
use Rattle.sf_run.proofs.running.run.Goals as goal

pub loop-next-init : goal.loop-next-init
loop-next-init c = search (arith, lent_lawful, safe_start, value_is)

pub execute-requires-clause-in_range : goal.execute-requires-clause-in_range
execute-requires-clause-in_range c = search (arith, lent_lawful, slice_get-get_or)

pub execute-requires-clause-set : goal.execute-requires-clause-set
execute-requires-clause-set c =
    (at_hand _ c.insns-code.result.now (state_of c.loop-next.place c.loop-next.machine) _ c.insns-code.ensures.same
    c.insns-code.ensures.lawful c.loop-next.invariant.safe).set

pub loop-next-preserved : goal.loop-next-preserved
loop-next-preserved c =
    let code = c.insns-code.result.now in
    let s = state_of c.loop-next.place c.loop-next.machine in
    let h = at_hand _ code s _ c.insns-code.ensures.same c.insns-code.ensures.lawful c.loop-next.invariant.safe in
    let on = goes_on code c.args.input.now s _ c.in-Goes.next c.execute.new.machine h c.in-Goes.ensures in
    record {
      safe = on.safe;
      same = λ n o rest. c.loop-next.invariant.same (suc n) (on.met ++ o.0, o.1) (on.more n o rest);
    }

pub returns-in-Returns : goal.returns-in-Returns
returns-in-Returns c =
    let code = c.insns-code.result.now in
    let d = c.args.input.now in
    let s = state_of c.loop-next.place c.loop-next.machine in
    let h = at_hand _ code s _ c.insns-code.ensures.same c.insns-code.ensures.lawful c.loop-next.invariant.safe in
    let out = goes_out code d s _ c.in-Returns.value c.execute.new.machine h c.in-Returns.ensures in
    c.loop-next.invariant.same 1 (out.met, c.in-Returns.value) out.ends
    ∙ ap (λ (p : List Insn). return_of p d) c.insns-code.ensures.same
