-- A list of raw instructions has at most one first fault, and none where it spells a lawful program.
use Rattle.sf_check.proofs.Common.{common_steps, ◌≡◌, ℕ, ◌<◌, List, length, Some, slice_get, Ok, Err, Result, refl, sym, ap, subst, ◌∙◌, ◌⊎◌, inl, inr, arith, cases_lt, same_Some, slice_get_within, RawInsn, Insn, Unreadable, UnknownCode, BadField, Fault, Empty, TooLong, Code, Field, Jump, Last, Scratch, insn_of, targets, AllBelow, EndsInReturn, IsLawfulProgram, IsSetAt, IsUnsetAt, Spells, IsFine, AreFineBefore, IsFirstFault}
use Rattle.sf_check.proofs.laws.Spelled.{length-spells, one_spelled, spelled_at}

-- the fault of an instruction that isn't fine, by what it means
unfoldable fault_of : ℕ → Result Insn Unreadable → Fault
fault_of at (Err UnknownCode) = Code at
fault_of at (Err BadField) = Field at
fault_of at (Ok i) = Jump at

-- why a program whose instructions are fine is refused
data Refused (code : List Insn) : Fault → Type 0 where
  no_return : (EndsInReturn code → ⊥) → Refused code Last
  unset : (at : ℕ) → EndsInReturn code → IsUnsetAt code at → ((j : ℕ) → j < at → IsSetAt code j)
      → Refused code (Scratch at)

-- where the checker stops at a fault: at the length, at the first instruction that isn't fine, or at the whole program
data Stop (raws : List RawInsn) (e : Fault) : Type 0 where
  unfit : ((n : ℕ) → AreFineBefore raws n → ⊥)
      → ((e ≡ Empty) × (length raws ≡ 0)) ⊎ ((e ≡ TooLong) × (4096 < length raws)) → Stop raws e
  bad : (at : ℕ) (r : RawInsn) → AreFineBefore raws at → slice_get raws at ≡ Some r → e ≡ fault_of at (insn_of r)
      → (IsFine raws at r → ⊥) → Stop raws e
  whole : (code : List Insn) → AreFineBefore raws (length raws) → Spells raws code → Refused code e → Stop raws e

unreadable : (raws : List RawInsn) (at : ℕ) (r : RawInsn) (x : Unreadable) → insn_of r ≡ Err x → IsFine raws at r → ⊥
unreadable raws at r x wrong (j, good, inside) = let clash = sym wrong ∙ good in cc

same_Ok : (i j : Insn) (x : Result Insn Unreadable) → x ≡ Ok i → x ≡ Ok j → i ≡ j
same_Ok i j x p q = cc

stop_of : (raws : List RawInsn) (e : Fault) → IsFirstFault raws e → Stop raws e
unfolding fault_of
stop_of raws Empty f = unfit (λ n before. omega (arith, f, before.some)) (inl (refl, f))
stop_of raws TooLong f = unfit (λ n before. omega (arith, f, before.short)) (inr (refl, f))
stop_of raws (Code at) (before, r, here, wrong) =
    bad at r before here (sym (ap (fault_of at) wrong)) (unreadable raws at r UnknownCode wrong)
stop_of raws (Field at) (before, r, here, wrong) =
    bad at r before here (sym (ap (fault_of at) wrong)) (unreadable raws at r BadField wrong)
stop_of raws (Jump at) (before, r, i, here, good, out) = bad at r before here (sym (ap (fault_of at) good))
    (λ fine. out (subst (λ (k : Insn). AllBelow (length raws) (targets at k))
    (same_Ok fine.0 i (insn_of r) fine.1 good) fine.2))
stop_of raws Last (before, code, spells, wrong) = whole code before spells (no_return wrong)
stop_of raws (Scratch at) (before, code, spells, ends, wrong, first) =
    whole code before spells (unset at ends wrong first)
stop_of raws _ f = absurd f

-- two places are one where each has a property that no place before the other has
one_place : (P : ℕ → Type 0) (a b : ℕ) → P a → P b → ((j : ℕ) → j < a → P j → ⊥) → ((j : ℕ) → j < b → P j → ⊥)
    → a ≡ b
one_place P a b p q before_a before_b = grind (arith, common_steps, cases_lt)

one_refusal : (code : List Insn) (e f : Fault) → Refused code e → Refused code f → e ≡ f
one_refusal code e f (no_return wrong) (no_return wrong') = refl
one_refusal code e f (no_return wrong) (unset at ends u below) = absurd (wrong ends)
one_refusal code e f (unset at ends u below) (no_return wrong) = absurd (wrong ends)
one_refusal code e f (unset a ends u below) (unset b ends' v below') =
    ap (λ (n : ℕ). Scratch n) (one_place (IsUnsetAt code) a b u v (λ j lt w. w.4 (below j lt w.0 w.1 w.2 w.3))
    (λ j lt w. w.4 (below' j lt w.0 w.1 w.2 w.3)))

one_stop : (raws : List RawInsn) (e f : Fault) → Stop raws e → Stop raws f → e ≡ f
one_stop raws e f (unfit none p) (unfit none' q) = grind (arith, p, q)
one_stop raws e f (unfit none p) (bad at r before here is wrong) = absurd (none at before)
one_stop raws e f (unfit none p) (whole code all s refused) = absurd (none (length raws) all)
one_stop raws e f (bad at r before here is wrong) (unfit none q) = absurd (none at before)
one_stop raws e f (bad a r before here is wrong) (bad b q before' here' is' wrong') =
    grind (arith, common_steps, slice_get, same_Some, fault_of, one_place)
one_stop raws e f (bad at r before here is wrong) (whole code all s refused) =
    absurd (wrong (all.each at r (slice_get_within raws at r here) here))
one_stop raws e f (whole code all s refused) (unfit none q) = absurd (none (length raws) all)
one_stop raws e f (whole code all s refused) (bad at r before here is wrong) =
    absurd (wrong (all.each at r (slice_get_within raws at r here) here))
one_stop raws e f (whole code all s refused) (whole code' all' s' refused') =
    one_refusal code e f refused (subst (λ (c : List Insn). Refused c f) (one_spelled raws code' code s' s) refused')

pub one_fault : (raws : List RawInsn) (e f : Fault) → IsFirstFault raws e → IsFirstFault raws f → e ≡ f
one_fault raws e f p q = one_stop raws e f (stop_of raws e p) (stop_of raws f q)

-- raw instructions that spell a lawful program are fine
all_fine : (raws : List RawInsn) (code : List Insn) → Spells raws code → IsLawfulProgram code
    → AreFineBefore raws (length raws)
all_fine raws code s l = grind (arith, common_steps, length-spells, spelled_at)

not_refused : (code : List Insn) (e : Fault) → Refused code e → IsLawfulProgram code → ⊥
not_refused code e (no_return wrong) l = wrong l.ends
not_refused code e (unset at ends u below) l = u.4 (l.set at u.0 u.1 u.2 u.3)

-- and so they have no first fault
pub no_fault : (raws : List RawInsn) (e : Fault) (code : List Insn) → IsFirstFault raws e → Spells raws code
    → IsLawfulProgram code → ⊥
no_fault raws e code f s l = grind (arith, common_steps, slice_get_within, one_spelled, stop_of, all_fine, not_refused)
