use Rattle.sf_stack.proofs.Common.{common_steps, length, get_or, ◌≡◌, ◌∙◌, false, sym, ap, arith}
use Rattle.sf_stack.proofs.reaching.ReachingLemmas.{IsFound, Passes, pass_ends, pass_on, pass_over, read_there, written_whole}
use Rattle.sf_stack.proofs.reaching.reached.Goals.{then-index, else-index}
use Rattle.sf_stack.proofs.reaching.reached.Goals as goal

pub find_next-requires-clause-inside : goal.find_next-requires-clause-inside
find_next-requires-clause-inside c = grind (arith, common_steps, read_there)

pub loop-place-preserved : goal.loop-place-preserved
loop-place-preserved c =
    let there = read_there c.args.program.now c.insns-code.result.now c.loop-place.place _ c.insns-code.ensures.same
    c.insns-code.ensures.lawful c.loop-place-test.true in
    elim c.if-index.branch [
      | then-index w ↦
          (let on : IsFound c.loop-place.found.items c.loop-place.place = grind (arith, common_steps) in
          let next = rw w.deref_mut.ensures.value at w.find_next.ensures in
          let same = ap length w.deref_mut.ensures.value in
          let whole = written_whole c.loop-place.found.len w.find_next.new.found c.loop-place.found.items
          (w.find_next.auto.found ∙ same) (sym w.deref_mut.ensures.len ∙ same) in
          rw w.found-is (pass_on c.insns-code.result.now c.loop-place.place _ c.loop-place.found.items _
          c.loop-place.invariant on there.0 (rw c.loop-place.invariant.size there.1)
          (whole ∙ next)))
      | else-index w ↦
          (let off : get_or c.loop-place.found.items c.loop-place.place false ≡ false = grind (arith, common_steps) in
          rw w.found-is (pass_over c.insns-code.result.now c.loop-place.place _ c.loop-place.invariant off))
    ]

pub returns : goal.returns
returns c =
    let whole : c.loop-place.place ≡ length c.insns-code.result.now =
    omega (arith, c.loop-place.auto.place-end, c.loop-place-test.false) in
    let end : Passes c.insns-code.result.now (length c.insns-code.result.now) c.loop-place.found.items =
    rw whole at c.loop-place.invariant in
    rw c.insns-code.ensures.same at (pass_ends c.insns-code.result.now c.loop-place.found.items end)
