use Rattle.sf_audit.proofs.Common.{refl}
use Rattle.sf_audit.proofs.auditing.outcome_of.Goals as goal

pub returns : goal.returns
returns g c = record {
  end = rw c.in_ok-stack.ensures.ok at c.in_ok-settled.ensures.ok;
  plain = rw c.in_ok-stack.ensures.ok at c.in_ok-settled.ensures.plain;
  questions = refl;
  replies = rw c.deref.ensures.value at c.in_ok-replies.ensures.ok;
}
