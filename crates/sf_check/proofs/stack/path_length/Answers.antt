use Rattle.sf_check.proofs.Common.{◌∙◌, length, slice_get, arith, sym, ap, subst, refl, inl, inr, common_steps, cases_eq, slice_get_read, slice_get_within, same_Some, IsLawfulProgram, path_length-sum}
use Rattle.sf_check.proofs.stack.path_length.Goals as goal

pub loop-program-preserved : goal.loop-program-preserved
loop-program-preserved c =
    let programs = c.args.programs.now in
    let i = c.loop-program.program-index in
    let short = c.insns.ensures.lawful.short in
    let size = ap length c.insns.ensures.same in
    let here = slice_get_read programs (length programs) i c.program-item.result refl c.loop-program-test.true
    c.program-item.is in
    record {
      so_far = grind (arith, common_steps);
      small = omega arith;
      lawful = λ n p lt h. elim (cases_eq n i) [
        | inl e ↦ subst IsLawfulProgram (same_Some c.program-item.result p
            (sym here ∙ sym (ap (slice_get programs) e) ∙ h))
            c.insns.ensures.lawful
        | inr ne ↦ c.loop-program.invariant.lawful n p (omega arith) h
      ];
    }

pub returns-clause-lawful : goal.returns-clause-lawful
returns-clause-lawful c n p h =
    c.loop-program.invariant.lawful n p (omega (arith, slice_get_within c.args.programs.now n p h)) h

pub returns-clause-length : goal.returns-clause-length
returns-clause-length c = grind (arith, common_steps, path_length-sum)
