use Rattle.sf_command.proofs.Common.{arith, inl, inr, refl, IfErr-weaker, IfOk-weaker}
use Rattle.sf_command.proofs.subcommands.run_on_stack.Goals as goal

pub returns-in-audit-clause-done : goal.returns-in-audit-clause-done
returns-in-audit-clause-done g c = IfOk-weaker c.run_audit.result _ _
    (λ s done small. ((_, _), refl, inl (c.in-audit.is, done))) c.run_audit.ensures.done

pub returns-in-audit-clause-refused : goal.returns-in-audit-clause-refused
returns-in-audit-clause-refused g c = IfErr-weaker c.run_audit.result _ _
    (λ e why. ((_, _), refl, inl (c.in-audit.is, why))) c.run_audit.ensures.refused

pub returns-in-check-clause-done : goal.returns-in-check-clause-done
returns-in-check-clause-done g c = IfOk-weaker c.run_check.result _ _
    (λ s done small. ((_, _), refl, inr (inl (c.in-check.is, done)))) c.run_check.ensures.done

pub returns-in-eval-clause-done : goal.returns-in-eval-clause-done
returns-in-eval-clause-done g c = IfOk-weaker c.run_eval.result _ _
    (λ s done small. ((_, _), refl, inr (inr (inl (c.in-eval.is, done))))) c.run_eval.ensures.done

pub returns-in-eval-clause-refused : goal.returns-in-eval-clause-refused
returns-in-eval-clause-refused g c = IfErr-weaker c.run_eval.result _ _
    (λ e why. ((_, _), refl, inr (inr (inl (c.in-eval.is, why))))) c.run_eval.ensures.refused

pub returns-in-compare-clause-status : goal.returns-in-compare-clause-status
returns-in-compare-clause-status g c = IfOk-weaker c.run_compare.result _ _ (λ s few. inl (omega (arith, few)))
    c.run_compare.ensures.status

pub returns-in-compare-clause-done : goal.returns-in-compare-clause-done
returns-in-compare-clause-done g c = IfOk-weaker c.run_compare.result _ _
    (λ s done small. ((_, _), refl, inr (inr (inr (inl (c.in-compare.is, done)))))) c.run_compare.ensures.done

pub returns-in-compare-clause-refused : goal.returns-in-compare-clause-refused
returns-in-compare-clause-refused g c = IfErr-weaker c.run_compare.result _ _
    (λ e why. ((_, _), refl, inr (inr (inr (inl (c.in-compare.is, why)))))) c.run_compare.ensures.refused

pub returns-in-list-clause-status : goal.returns-in-list-clause-status
returns-in-list-clause-status g c = IfOk-weaker c.run_list.result _ _ (λ s zero. inl (omega (arith, zero)))
    c.run_list.ensures.status

pub returns-in-list-clause-done : goal.returns-in-list-clause-done
returns-in-list-clause-done g c = IfOk-weaker c.run_list.result _ _
    (λ s done small. ((_, _), refl, inr (inr (inr (inr (inl (c.in-list.is, done))))))) c.run_list.ensures.done

pub returns-in-list-clause-refused : goal.returns-in-list-clause-refused
returns-in-list-clause-refused g c = IfErr-weaker c.run_list.result _ _
    (λ e why. ((_, _), refl, inr (inr (inr (inr (inl (c.in-list.is, why))))))) c.run_list.ensures.refused

pub returns-in-needed-clause-status : goal.returns-in-needed-clause-status
returns-in-needed-clause-status g c = IfOk-weaker c.run_needed.result _ _ (λ s few. inl (omega (arith, few)))
    c.run_needed.ensures.status

pub returns-in-needed-clause-done : goal.returns-in-needed-clause-done
returns-in-needed-clause-done g c = IfOk-weaker c.run_needed.result _ _
    (λ s done small. ((_, _), refl, inr (inr (inr (inr (inr (inl (c.in-needed.is, done)))))))) c.run_needed.ensures.done

pub returns-in-needed-clause-refused : goal.returns-in-needed-clause-refused
returns-in-needed-clause-refused g c = IfErr-weaker c.run_needed.result _ _
    (λ e why. ((_, _), refl, inr (inr (inr (inr (inr (inl (c.in-needed.is, why)))))))) c.run_needed.ensures.refused
