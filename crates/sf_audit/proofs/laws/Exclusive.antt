-- An audit and a refusal exclude each other.
use Rattle.sf_audit.proofs.Common.{◌≡◌, ℕ, ◌<◌, ◌≤◌, ◌⊎◌, List, inl, inr, arith, Insn, QuestionData, Fault, SpellStack, IsFirstRefusal, Found, IsAudit, IsMiscounted, IsAuditRefusal}
use Rattle.sf_stack.specs.declared.fault.Fault.TheVariants as faults

-- files with a refusal spell no lawful stack
abbrev pub NoStack : Type 0
NoStack = (files : List (List ℕ)) (e : Fault) (programs : List (List Insn)) → IsFirstRefusal files e
    → SpellStack files programs → ⊥

-- a refusal is of the number of questions, or of the files
by_kind : (files : List (List ℕ)) (questions : List QuestionData) (e : Fault) → IsAuditRefusal files questions e
    → IsMiscounted files questions ⊎ IsFirstRefusal files e
by_kind files questions faults.Count r = inl r
by_kind files questions e r = inr r

-- no number is right and wrong
never_both : (n : ℕ) → (0 < n) × (n ≤ 256) → (n ≡ 0) ⊎ (256 < n) → ⊥
never_both n h (inl none) = let some = h.0 in omega arith
never_both n h (inr many) = let few = h.1 in omega arith

pub audited_not_refused : NoStack → (files : List (List ℕ)) (questions : List QuestionData) (budget : ℕ)
    (o : Found) (e : Fault)
    → IsAudit files questions budget o → IsAuditRefusal files questions e → ⊥
audited_not_refused none files questions budget o e audit refused = search (arith, never_both, by_kind)
