use Rattle.sf_command.proofs.Common.{inl, inr, fun_ext, handed_on}
use Rattle.sf_command.proofs.auditing.read_questions.Goals as goal

pub returns-clause-read : goal.returns-clause-read
returns-clause-read g c = record {
  questions = c.in_ok-policies.ensures.asked;
  control = rw (fun_ext c.in_ok-policies.ensures.same) at c.in_ok-control.ensures.asked;
  accepted = rw (
    c.deref.ensures.value,
    fun_ext c.in_ok-control.ensures.same,
    fun_ext c.in_ok-policies.ensures.same,
  ) at c.in_ok-accepted.ensures.named;
}

pub returns-in_err-policies-clause-refused : goal.returns-in_err-policies-clause-refused
returns-in_err-policies-clause-refused g c =
    handed_on _ c.from_residual.result c.in_err-policies.field-0.0 c.from_residual.ensures.1
    (inl c.in_err-policies.ensures.refused)

pub returns-in_err-control-clause-refused : goal.returns-in_err-control-clause-refused
returns-in_err-control-clause-refused g c =
    handed_on _ c.from_residual-in_err-control.result c.in_err-control.field-0.0
    c.from_residual-in_err-control.ensures.1
    (inr (inl (rw (fun_ext c.in_ok-policies.ensures.same) at c.in_err-control.ensures.refused)))

pub returns-in_err-accepted-clause-refused : goal.returns-in_err-accepted-clause-refused
returns-in_err-accepted-clause-refused g c =
    handed_on _ c.from_residual-in_err-accepted.result c.in_err-accepted.field-0.0
    c.from_residual-in_err-accepted.ensures.1
    (inr (inr (inl (
      c.in_ok-policies.policies.questions.items,
      c.in_ok-policies.ensures.asked,
      rw (
        c.deref.ensures.value,
        fun_ext c.in_ok-control.ensures.same,
        fun_ext c.in_ok-policies.ensures.same,
      ) at c.in_err-accepted.ensures.refused,
    ))))
