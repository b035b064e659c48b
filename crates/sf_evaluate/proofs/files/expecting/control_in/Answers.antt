use Rattle.sf_evaluate.proofs.Common.{◌≡◌, ◌⊎◌, List, ℕ, Bor, Fault, None, Option, Some, ap, handed_on, inl, inr, option_map, RefusesPolicyFile}
use Rattle.sf_stack.specs.declared.fault.Fault.TheVariants as faults
use Rattle.sf_evaluate.specs.Expecting.{RefusesControl}
use Rattle.sf_evaluate.proofs.FailureLemmas.{given_named}
use Rattle.sf_evaluate.proofs.files.expecting.control_in.Goals as goal

given_refused : (holds : List ℕ → Option (List ℕ)) (given : Option (List ℕ)) (path : List ℕ) (e : Fault)
    → given ≡ Some path
    → ((e ≡ faults.Read) × (holds path ≡ None)) ⊎ (e ≡ faults.Memory) ⊎ RefusesPolicyFile (holds path) e
    → RefusesControl holds given e
given_refused holds given path e is (inl unread) = inr (path, is, inl unread)
given_refused holds given path e is (inr (inl memory)) = inl memory
given_refused holds given path e is (inr (inr why)) = inr (path, is, inr why)

pub returns-in_err-questions-in-Some-clause-refused : goal.returns-in_err-questions-in-Some-clause-refused
returns-in_err-questions-in-Some-clause-refused g c =
    handed_on _ c.from_residual.result c.in_err-questions-in-Some.field-0.0 c.from_residual.ensures.1
    (given_refused _ _ _ _ (ap (option_map (λ (t : Bor (List ℕ)). t.now)) c.in-Some.is)
    c.in_err-questions-in-Some.ensures.refused)

pub returns-in_err-questions-in-Some-clause-failed : goal.returns-in_err-questions-in-Some-clause-failed
returns-in_err-questions-in-Some-clause-failed g c =
    handed_on _ c.from_residual.result c.in_err-questions-in-Some.field-0.0 c.from_residual.ensures.1
    (given_named _ _ _ _ _ (ap (option_map (λ (t : Bor (List ℕ)). t.now)) c.in-Some.is)
    c.in_err-questions-in-Some.ensures.failed)
