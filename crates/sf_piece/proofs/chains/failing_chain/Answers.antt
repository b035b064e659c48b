use Rattle.sf_piece.proofs.Common.{common_steps, List, length, ap, sym, subst, arith, Insn, IsCodeAtHand}
use Rattle.sf_piece.proofs.FailingSteps.{few_failing, over_none, over_one_more, over_failing, inside_behind}
use Rattle.sf_piece.proofs.chains.failing_chain.Goals as goal

pub returns-in_default : goal.returns-in_default
returns-in_default c = rw (← c.run.view_is) (over_none _ (rw (← c.run.view_is) at c.requires.lawful))

pub returns-then-is_none : goal.returns-then-is_none
returns-then-is_none c = rw (← c.run.view_is) (over_none _ (rw (← c.run.view_is) at c.requires.lawful))

pub bounds-code-behind : goal.bounds-code-behind
bounds-code-behind c =
    let inside = inside_behind c.args.run.now c.in-Some.program.now c.loop-skips.count c.loop-skips.behind
    c.in-Some.ensures c.loop-skips.invariant.over in
    omega (arith, inside, ap length c.insns-code.ensures.same)

pub offset_bounds-code-behind : goal.offset_bounds-code-behind
offset_bounds-code-behind c =
    let inside = inside_behind c.args.run.now c.in-Some.program.now c.loop-skips.count c.loop-skips.behind
    c.in-Some.ensures c.loop-skips.invariant.over in
    omega (arith, inside, ap length c.insns-code.ensures.same, c.in-Some.ensures.short)

pub loop-skips-preserved : goal.loop-skips-preserved
loop-skips-preserved c =
    let at = subst (λ (l : List Insn). IsCodeAtHand c.args.run.now l) (sym c.insns-code.ensures.same)
    c.in-Some.ensures in
    record {
      over = over_one_more c.args.run.now c.insns-code.result.now c.args.known c.loop-skips.count c.loop-skips.behind
          c.in-Some-failing_skips.skips _ at c.requires.known c.loop-skips.invariant.over
          c.in-Some-failing_skips.ensures (omega arith);
      few = omega (arith, c.loop-skips.invariant.few);
    }

pub loop-skips-init : goal.loop-skips-init
loop-skips-init c = grind (arith, common_steps, over_failing, few_failing)
