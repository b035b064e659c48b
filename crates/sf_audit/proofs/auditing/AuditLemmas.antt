-- Audits of the stack that files spell.
use Rattle.sf_audit.proofs.Common.{◌≡◌, ◌⊎◌, inl, inr, ℕ, List, sym, subst, Insn, QuestionData, Fault, SpellStack, Found, IsAudit, IsAuditOf, IsAuditRefusal, IsFoundOn, IsWrongCount}
use Rattle.sf_stack.specs.declared.fault.Fault.TheVariants as faults

module _ (files : List (List ℕ)) (stack : List (List Insn)) (questions : List QuestionData)
    (spelled : SpellStack files stack) where
  pub audit_of_files : (budget : ℕ) (o : Found) → IsAuditOf stack questions budget o
      → IsAudit files questions budget o
  audit_of_files budget o audit =
      let same : stack ≡ o.settled.stack = sym audit.found.end.of in
      record {
        stack = subst (λ (ps : List (List Insn)). SpellStack files ps) same spelled;
        counted = audit.counted;
        found = subst (λ (ps : List (List Insn)). IsFoundOn ps budget questions o) same audit.found;
      }

  pub refusal_of_files : (e : Fault) → (e ≡ faults.Memory) ⊎ ((e ≡ faults.Count) × IsWrongCount questions)
      → (e ≡ faults.Memory) ⊎ IsAuditRefusal files questions e
  refusal_of_files e (inl memory) = inl memory
  refusal_of_files e (inr (count, wrong)) =
      inr (subst (λ (f : Fault). IsAuditRefusal files questions f) (sym count)
      (record { stack = stack; spelled = spelled; count = wrong }))
