-- What the answer of `read_policy` says of the bytes of a policy file.
use Rattle.sf_evaluate.proofs.Common.{◌≡◌, ℕ, List, Option, Some, None, refl, ◌⊎◌, inl, inr, IfErr, IfOk, Members, parse_document, QuestionData, Fault, IsDue, policy_of, IsPolicyFile, RefusesPolicyFile, AreKnownBytes}
use Rattle.std.proofs.Common.{Result, Ok, Err}
use Rattle.sf_stack.specs.declared.fault.Fault.TheVariants as faults

pub option_cases : {X : Type 0} (o : Option X) → (o ≡ None) ⊎ ((x : X) × (o ≡ Some x))
option_cases None = inl refl
option_cases (Some x) = inr (x, refl)

pub policy_asked : {X : Type 0} (view : X → List QuestionData) (r : Result X Fault)
    (known : Option (List ℕ)) (text : List ℕ)
    → ((tree : Members) → parse_document text ≡ Some tree → IsDue view r (policy_of tree))
    → (parse_document text ≡ None → (r ≡ Err faults.Syntax) ⊎ (r ≡ Err faults.Memory)) → AreKnownBytes known text
    → IfOk r (λ v. IsPolicyFile known (view v))
policy_asked view (Ok x) known text read none agrees = elim (option_cases (parse_document text)) [
  | inl e ↦ elim (none e) [ inl h ↦ absurd cc | inr h ↦ absurd cc ]
  | inr found ↦ (text, agrees, (found.0, found.1, read found.0 found.1))
]
policy_asked view (Err e) known text read none agrees = tt

-- what refuses the text refuses the file
pub policy_refused : {X : Type 0} (view : X → List QuestionData) (r : Result X Fault) (known : Option (List ℕ))
    (text : List ℕ) (Unread : Fault → Type 0)
    → ((tree : Members) → parse_document text ≡ Some tree → IsDue view r (policy_of tree))
    → (parse_document text ≡ None → (r ≡ Err faults.Syntax) ⊎ (r ≡ Err faults.Memory)) → AreKnownBytes known text
    → IfErr r (λ e. Unread e ⊎ (e ≡ faults.Memory) ⊎ RefusesPolicyFile known e)
policy_refused view (Ok x) known text Unread read none agrees = tt
policy_refused view (Err faults.Memory) known text Unread read none agrees = inr (inl refl)
policy_refused view (Err e) known text Unread read none agrees = elim (option_cases (parse_document text)) [
  | inl absent ↦ elim (none absent) [
    | inl syntax ↦ inr (inr (text, agrees, inl (cc, inr absent)))
    | inr memory ↦ inr (inl cc)
  ]
  | inr found ↦ inr (inr (text, agrees, inr (found.0, found.1, read found.0 found.1)))
]
