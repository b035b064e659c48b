use Rattle.sf_evaluate.proofs.Common.{◌≡◌, ◌∙◌, None, Ok, inl, inr, sym, without_place}
use Rattle.sf_evaluate.proofs.files.questions.PolicyLemmas.{policy_asked, policy_refused}
use Rattle.sf_stack.specs.declared.fault.Fault.TheVariants as faults
use Rattle.sf_evaluate.proofs.files.questions.questions_in.Goals as goal

pub returns-in-Ok-read_policy_at-clause-asked : goal.returns-in-Ok-read_policy_at-clause-asked
returns-in-Ok-read_policy_at-clause-asked g c =
    let text : c.in-Ok.text.now ≡ c.in_ok-bytes.bytes.items = c.in-Ok.ensures.cases.0 ∙ c.deref.ensures.value in
    let agrees = rw (sym text) at c.in_ok-bytes.ensures.bytes in
    policy_asked (λ v. v.items) (Ok c.in-Ok-read_policy_at.questions) _ _ c.in-Ok-read_policy_at.ensures.read
    c.in-Ok-read_policy_at.ensures.no_syntax agrees

pub returns-in-Err-read_policy_at-clause-refused : goal.returns-in-Err-read_policy_at-clause-refused
returns-in-Err-read_policy_at-clause-refused g c =
    let text : c.in-Ok.text.now ≡ c.in_ok-bytes.bytes.items = c.in-Ok.ensures.cases.0 ∙ c.deref.ensures.value in
    let agrees = rw (sym text) at c.in_ok-bytes.ensures.bytes in
    let known = g.F.Files.holds c.args.files.now c.args.path.now in
    let refused = policy_refused (λ v. v.items) (without_place c.read_policy_at.result) known c.in-Ok.text.now
    (λ e. (e ≡ faults.Read) × (known ≡ None)) c.read_policy_at.ensures.read c.read_policy_at.ensures.no_syntax agrees in
    rw c.take_refusal.ensures.same (rw c.in-Err-read_policy_at.is at refused)

pub returns-in-Err-read_policy_at-clause-failed : goal.returns-in-Err-read_policy_at-clause-failed
returns-in-Err-read_policy_at-clause-failed g c = inr (rw c.take_refusal.ensures.file c.in_ok-bytes.ensures.opened)

pub returns-in-Err-clause-refused : goal.returns-in-Err-clause-refused
returns-in-Err-clause-refused g c =
    let agrees = rw (sym c.deref.ensures.value) at c.in_ok-bytes.ensures.bytes in
    inr (inr (c.deref.result.now, agrees, inl (c.take_refusal-in-Err.ensures.same, inl c.in-Err.ensures.cases.0)))

pub returns-in-Err-clause-failed : goal.returns-in-Err-clause-failed
returns-in-Err-clause-failed g c = inr (rw c.take_refusal-in-Err.ensures.file c.in_ok-bytes.ensures.opened)
