use Rattle.sf_run.proofs.Common.{◌∙◌, ◌-◌, ◌<◌, List, length, ap, sym, arith, slice_get-get_or, Insn, state_of, safe_start, walk_of}
use Rattle.sf_run.proofs.Steps.{lent_lawful, at_hand, goes_on, goes_out}
use Rattle.sf_run.proofs.WalkLemmas.{walk_comes_to_end, walk_goes_on, walk_tells_run}
use Rattle.sf_run.proofs.walking.WordLemmas.{walk_tells_words}
use Rattle.sf_run.proofs.walking.walk.Goals as goal

pub steps-init : goal.steps-init
unfolding walk_of
steps-init c =
    let code = c.insns-code.result.now in
    let lawful = lent_lawful _ code c.insns-code.ensures.same c.insns-code.ensures.lawful in
    record {
      safe = rw c.start-machine.ensures (safe_start code lawful.some);
      left = length code;
      enough = omega arith;
      same = λ w e. rw c.new-met.ensures.items (rw c.start-machine.ensures at e);
    }

pub execute-requires-clause-in_range : goal.execute-requires-clause-in_range
execute-requires-clause-in_range c = search (arith, lent_lawful, slice_get-get_or)

pub execute-requires-clause-set : goal.execute-requires-clause-set
execute-requires-clause-set c =
    (at_hand _ c.insns-code.result.now (state_of c.steps.place c.steps.machine) _ c.insns-code.ensures.same
    c.insns-code.ensures.lawful c.steps.invariant.safe).set

pub steps-preserved : goal.steps-preserved
steps-preserved c =
    let code = c.insns-code.result.now in
    let d = c.args.input.now in
    let s = state_of c.steps.place c.steps.machine in
    let before = c.steps.invariant in
    let some : 0 < before.left = omega (arith, before.enough, before.safe.inside) in
    let h = at_hand _ code s _ c.insns-code.ensures.same c.insns-code.ensures.lawful before.safe in
    let on = goes_on code d s _ c.in-Goes.next c.execute.new.machine h c.in-Goes.ensures in
    record {
      safe = on.safe;
      left = before.left - 1;
      enough = omega (arith, before.enough, on.later);
      same = λ w e. walk_goes_on code d c.steps.word s _ on.met (state_of c.in-Goes.next c.execute.new.machine)
          before.left c.steps.met.items c.push_meeting.new.met.items (walk_of code d) some h.at on.took
          c.in_ok-push_meeting.ensures.pushed before.same w (rw c.word_after-word.ensures at e);
    }

pub returns-in-Returns-clause-course : goal.returns-in-Returns-clause-course
returns-in-Returns-clause-course c =
    let code = c.insns-code.result.now in
    let d = c.args.input.now in
    let s = state_of c.steps.place c.steps.machine in
    let before = c.steps.invariant in
    let some : 0 < before.left = omega (arith, before.enough, before.safe.inside) in
    let h = at_hand _ code s _ c.insns-code.ensures.same c.insns-code.ensures.lawful before.safe in
    let out = goes_out code d s _ c.in-Returns.value c.execute.new.machine h c.in-Returns.ensures in
    sym (ap (λ (p : List Insn). walk_of p d) c.insns-code.ensures.same)
    ∙ walk_comes_to_end code d c.steps.word s _ out.met c.in-Returns.value before.left c.steps.met.items
    c.push_meeting.new.met.items (walk_of code d) some h.at out.took c.in_ok-push_meeting.ensures.pushed before.same

pub returns-in-Returns-clause-run : goal.returns-in-Returns-clause-run
returns-in-Returns-clause-run c = walk_tells_run _ _ _ (returns-in-Returns-clause-course c)

pub returns-in-Returns-clause-words : goal.returns-in-Returns-clause-words
returns-in-Returns-clause-words c = walk_tells_words _ _ _ (returns-in-Returns-clause-course c)
