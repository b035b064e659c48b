use Rattle.sf_evaluate.proofs.Common.{inl, List, ℕ, Bor, ap, inr, option_map}
use Rattle.sf_evaluate.proofs.FailureLemmas.{each_error, given_named}
use Rattle.sf_evaluate.proofs.files.groups.groups_in.Goals as goal

pub returns-in-Ok-clause-failed : goal.returns-in-Ok-clause-failed
returns-in-Ok-clause-failed g c =
    each_error c.groups_of.result _ (λ e. given_named e _ _ _ _
    (ap (option_map (λ (t : Bor (List ℕ)). t.now)) c.in-Some.is) (inr c.in-Ok.ensures.opened))

pub returns-in-Err-clause-failed : goal.returns-in-Err-clause-failed
returns-in-Err-clause-failed g c = elim c.in-Err.ensures.failed [
  | inl memory ↦ inl cc
  | inr file ↦ inr (_, ap (option_map (λ (t : Bor (List ℕ)). t.now)) c.in-Some.is, file)
]
