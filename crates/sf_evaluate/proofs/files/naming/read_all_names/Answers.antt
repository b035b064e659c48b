use Rattle.sf_evaluate.proofs.Common.{◌∙◌, fun_ext, handed_on, inl, of_names, refl}
use Rattle.sf_evaluate.proofs.FailureLemmas.{refused_named}
use Rattle.sf_evaluate.proofs.files.naming.SetLemmas.{joining_named, one_named}
use Rattle.sf_evaluate.proofs.files.naming.read_all_names.Goals as goal

pub loop-path-preserved : goal.loop-path-preserved
loop-path-preserved g c =
    let so_far = c.loop-path.invariant in
    record {
      named = one_named _ _ _ _ _ so_far.named c.loop-path-test.true
          (rw (fun_ext so_far.same) at c.in_ok-sets.ensures.meant) _ c.in_ok-join_sets.ensures.joined;
      same = λ p. c.names_in.ensures.same p ∙ so_far.same p;
    }

pub returns-in_err-sets-clause-failed : goal.returns-in_err-sets-clause-failed
returns-in_err-sets-clause-failed g c =
    handed_on _ c.from_residual.result c.in_err-sets.field-0.0 c.from_residual.ensures.1
    (refused_named _ _ _ _ _ _ _ c.loop-path-test.true c.in_err-sets.ensures.failed _ (λ why. inl why)
    (rw (fun_ext c.loop-path.invariant.same) at c.in_err-sets.ensures.refused))

pub returns-in_err-join_sets-clause-failed : goal.returns-in_err-join_sets-clause-failed
returns-in_err-join_sets-clause-failed g c =
    let so_far = c.loop-path.invariant in
    let r = c.from_residual-in_err-join_sets in
    handed_on _ r.result (of_names c.in_err-join_sets.field-0.0) r.ensures.1
    (joining_named _ _ _ _ _ so_far.named c.loop-path-test.true
    (rw (fun_ext so_far.same) at c.in_ok-sets.ensures.meant) _ _ _ refl c.in_err-join_sets.ensures.refused _
    c.in_ok-sets.ensures.opened)
