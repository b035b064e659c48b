-- Why what is done with files is refused.
use Rattle.sf_command.proofs.Common.{◌≡◌, ◌⊎◌, ◌<◌, inl, inr, ℕ, List, Option, Bor, length, Fault, Insn, IsWrongCount, Count, Memory, Write, AskedData, IsAskedBy, IsRefusedFor, ReadData, RefusesAudit, HoldStack}

-- where there are no questions or too many, the audit of the stack is refused
pub miscounted : (read : ReadData) (e : Fault) → (e ≡ Memory) ⊎ ((e ≡ Count) × IsWrongCount read.questions)
    → (e ≡ Memory) ⊎ IsRefusedFor read e
miscounted read e (inl memory) = inl memory
miscounted read e (inr (count, wrong)) = inr (count, inl wrong)

-- where the control has too many, it is too
pub control_miscounted : (read : ReadData) (e : Fault) → (e ≡ Memory) ⊎ ((e ≡ Count) × (256 < length read.control))
    → (e ≡ Memory) ⊎ IsRefusedFor read e
control_miscounted read e (inl memory) = inl memory
control_miscounted read e (inr (count, many)) = inr (count, inr many)

-- where the audit of the stack is refused, that of the files is
pub audit_why : (holds : List ℕ → Option (List ℕ)) (asked : AskedData) (paths : List (Bor (List ℕ)))
    (read : ReadData) (stack : List (List Insn)) (e : Fault)
    → IsAskedBy holds asked read → HoldStack holds paths stack → (e ≡ Memory) ⊎ IsRefusedFor read e
    → RefusesAudit holds asked paths e
audit_why holds asked paths read stack e asks held (inl memory) = inr (inl memory)
audit_why holds asked paths read stack e asks held (inr why) =
    inr (inr (inr (read, asks, inr (stack, held, why))))

-- where a report isn't written, the audit is refused
pub unwritten_audit : (holds : List ℕ → Option (List ℕ)) (asked : AskedData) (paths : List (Bor (List ℕ)))
    (same : Type 0) (e : Fault) → (e ≡ Write) ⊎ ((e ≡ Memory) × same) → RefusesAudit holds asked paths e
unwritten_audit holds asked paths same e (inl write) = inl write
unwritten_audit holds asked paths same e (inr memory) = inr (inl memory.0)

-- a choice without the second statement
pub without_second : {P Q R : Type 0} → P ⊎ (Q × R) → P ⊎ R
without_second (inl p) = inl p
without_second (inr (q, r)) = inr r

-- a choice without the third statement
pub without_third : {P Q R : Type 0} → P ⊎ (Q × R) → P ⊎ Q
without_third (inl p) = inl p
without_third (inr (q, r)) = inr q

-- a choice with one more statement
pub or_else : {P Q R S : Type 0} → P ⊎ (Q × S) → P ⊎ ((Q ⊎ R) × S)
or_else (inl p) = inl p
or_else (inr (q, s)) = inr (inl q, s)
