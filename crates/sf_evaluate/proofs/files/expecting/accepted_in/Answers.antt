use Rattle.sf_evaluate.proofs.Common.{List, ℕ, Bor, ap, handed_on, inr, option_map}
use Rattle.sf_evaluate.proofs.FailureLemmas.{each_error, given_named}
use Rattle.sf_evaluate.proofs.files.expecting.accepted_in.Goals as goal

pub returns-in_err-bytes-in-Some-clause-failed : goal.returns-in_err-bytes-in-Some-clause-failed
returns-in_err-bytes-in-Some-clause-failed g c =
    handed_on _ c.from_residual.result c.in_err-bytes-in-Some.field-0.0 c.from_residual.ensures.1
    (given_named _ _ _ _ _ (ap (option_map (λ (t : Bor (List ℕ)). t.now)) c.in-Some.is)
    c.in_err-bytes-in-Some.ensures.failed)

pub returns-in_ok-bytes-in-Some-clause-failed : goal.returns-in_ok-bytes-in-Some-clause-failed
returns-in_ok-bytes-in-Some-clause-failed g c =
    each_error c.accepted_of.result _ (λ e. given_named e _ _ _ _
    (ap (option_map (λ (t : Bor (List ℕ)). t.now)) c.in-Some.is) (inr c.in_ok-bytes-in-Some.ensures.opened))
