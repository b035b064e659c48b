use Rattle.sf_behaviour.proofs.Common.{slice_get_within, List, ap, rules, slice_set, ◌≡◌, ◌-◌, ◌+◌, ◌∙◌, ℕ, length, sym, subst, arith, IsLawfulProgram, keeps_more, TellFrom, length-replicate}
use Rattle.sf_behaviour.proofs.steps.StepsLemmas.{first-tells, from-more, program-diagram, steps-kept, steps-some}
use Rattle.sf_behaviour.proofs.program.returned.Goals as goal

pub loop-i-init : goal.loop-i-init
loop-i-init c =
    let made = c.in_ok-ids.ensures.items_if_clones_equal (search rules) in
    let size : c.len.result ≡ length c.in_ok-steps.steps.items = omega arith in
    record {
      keeps = c.in_ok-steps.ensures.store.0;
      steps = c.in_ok-steps.ensures.steps;
      some = steps-some c.in_ok-steps.steps.items c.insns.result.now c.in_ok-steps.ensures.code
          (subst IsLawfulProgram (sym c.insns.ensures.same) c.insns.ensures.lawful).some;
      behind = record {
        count = ap (λ (xs : List ℕ). length xs) made ∙ length-replicate c.len.result 0 ∙ size;
        each = λ place step low there.
            absurd (omega (arith, slice_get_within c.in_ok-steps.steps.items place step there));
      };
    }

pub diagram_of_place-requires : goal.diagram_of_place-requires
diagram_of_place-requires c =
    let place = c.len-in-loop-i.result - 1 - c.loop-i.i in
    let next : length c.in_ok-steps.steps.items - c.loop-i.i ≡ place + 1 = omega arith in
    record {
      lawful = subst IsLawfulProgram (sym (c.in_ok-steps.ensures.code ∙ c.insns.ensures.same)) c.insns.ensures.lawful;
      are = c.loop-i.invariant.steps;
      inside = omega arith;
      at = c.step_at-step.ensures;
      behind = subst (λ (n : ℕ). TellFrom c.loop-i.store.trees c.in_ok-steps.steps.items c.loop-i.ids.items n) next
          c.loop-i.invariant.behind;
    }

pub loop-i-preserved : goal.loop-i-preserved
loop-i-preserved c =
    let h = c.loop-i.invariant in
    let e = c.in_ok-id.ensures in
    let steps = c.in_ok-steps.steps.items in
    let place = c.len-in-loop-i.result - 1 - c.loop-i.i in
    let next : place ≡ length steps - (c.loop-i.i + 1) = omega arith in
    record {
      keeps = keeps_more _ _ _ h.keeps e.store.0;
      steps = steps-kept e.store.0.trees h.steps;
      some = h.some;
      behind = subst (λ (n : ℕ). TellFrom c.diagram_of_place.new.store.trees steps
          (slice_set c.loop-i.ids.items place c.in_ok-id.id) n) next (from-more _ _ steps
          c.loop-i.ids.items (length steps - c.loop-i.i) place _ _ (omega arith) e.store.0.trees h.steps h.behind
          c.step_at-step.ensures e.tells);
    }

pub returns-clause-small : goal.returns-clause-small
returns-clause-small c =
    (first-tells c.in_ok-steps.steps.items (length c.in_ok-steps.steps.items - c.loop-i.i) (omega arith)
    c.loop-i.invariant.some c.loop-i.invariant.behind c.id_at.ensures).2.small

pub returns-clause-number : goal.returns-clause-number
returns-clause-number c =
    program-diagram _ _ _ c.loop-i.ids.items (length c.in_ok-steps.steps.items - c.loop-i.i) _ (omega arith)
    (c.in_ok-steps.ensures.code ∙ c.insns.ensures.same) c.insns.ensures.lawful c.loop-i.invariant.steps
    c.loop-i.invariant.behind c.id_at.ensures
