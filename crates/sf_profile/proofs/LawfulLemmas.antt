-- A written filter is lawful.
use Rattle.sf_profile.proofs.Common.{◌≡◌, ℕ, zero, suc, ◌+◌, ◌-◌, ◌<◌, ◌≤◌, ◌^◌, List, [], ◌∷◌, ◌++◌, length, length-append, map, Some, slice_get, refl, ap, ◌∙◌, subst, sym, arith, slice_get-map, same_Some, length-map, flat_map, IsInsn, AreInsns, Insn, targets, loaded_by, IsInRange, IsReturn, IsAt, AllBelow, IsLawfulProgram, option_map_some, Instruction, Mask, Branch, Return, PlanData, form, part_code, raw_of, common_steps}
use Rattle.sf_profile.proofs.RunLemmas.{insn_of}
use Rattle.sf_profile.proofs.JumpLemmas.{Leads, AllLead, form_leads}

-- the instruction at a place goes on inside
leads_at : (tail : ℕ) (code : List Instruction) (at : ℕ) (i : Instruction) → AllLead tail code
    → slice_get code at ≡ Some i → (n : ℕ) × (at + 1 + n ≡ length code + tail) × Leads i n
leads_at tail [] at i h e = absurd cc
leads_at tail (j ∷ code) zero i h e = grind (arith, common_steps)
leads_at tail (j ∷ code) (suc at) i h e = grind (arith, leads_at tail code at i h.1 e)

-- what stands at a place of the program
found : (code : List Instruction) (at : ℕ) (i : Insn) → IsAt (map insn_of code) at i
    → (j : Instruction) × (slice_get code at ≡ Some j) × (insn_of j ≡ i)
found code at i e = option_map_some insn_of (slice_get code at) i (sym (slice_get-map insn_of code at) ∙ e)

-- the constant of an instruction is a word
abbrev HasWord : Instruction → Type 0
HasWord (Mask k) = k < 2 ^ 32
HasWord (Branch test k on_true on_false) = k < 2 ^ 32
HasWord (Return k) = k < 2 ^ 32
HasWord _ = Unit {0}

has_word : (i : Instruction) → IsInsn (raw_of i) → HasWord i
has_word i h = grind arith

-- so it is of each instruction that was written
have_words : (code : List Instruction) (at : ℕ) (i : Instruction) → AreInsns (map raw_of code)
    → slice_get code at ≡ Some i → HasWord i
have_words [] at i h e = absurd cc
have_words (j ∷ code) zero i h e = subst HasWord (same_Some j i e) (has_word j (h 0 (raw_of j) (omega arith)))
have_words (j ∷ code) (suc at) i h e = have_words code at i (λ k d short. h (suc k) d (omega (arith, short))) e

in_range : (i : Instruction) (n : ℕ) → Leads i n → HasWord i → IsInRange (insn_of i)
in_range i n l w = grind arith

inside : (i : Instruction) (at n size : ℕ) → at + 1 + n ≡ size → Leads i n → AllBelow size (targets at (insn_of i))
inside i at n size e l = grind arith

loads_nothing : (i : Instruction) (k : ℕ) → loaded_by (insn_of i) ≡ Some k → ⊥
loads_nothing i k e = grind arith

last_is : (code : List Instruction) (i : Instruction) → slice_get (code ++ i ∷ []) (length code) ≡ Some i
last_is [] i = refl
last_is (j ∷ code) i = last_is code i

-- instructions that end with a return, and whose jumps lead inside, are a lawful program
pub lawful : (code : List Instruction) (value : ℕ) → AllLead 0 (code ++ Return value ∷ [])
    → length (code ++ Return value ∷ []) ≤ 4096 → AreInsns (map raw_of (code ++ Return value ∷ []))
    → IsLawfulProgram (map insn_of (code ++ Return value ∷ []))
lawful code value h short fields = record {
  some = omega (arith, size, long);
  short = omega (arith, size);
  in_range = λ at i e.
      let f = found whole at i e in
      let l = leads_at 0 whole at f.0 h f.1 in
      subst IsInRange f.2 (in_range f.0 l.0 l.2 (have_words whole at f.0 fields f.1));
  inside = λ at i e.
      let f = found whole at i e in
      let l = leads_at 0 whole at f.0 h f.1 in
      subst (λ j. AllBelow (length (map insn_of whole)) (targets at j)) f.2
      (inside f.0 at l.0 (length (map insn_of whole)) (omega (arith, size, l.1)) l.2);
  ends = λ i e.
      let f = found whole (length (map insn_of whole) - 1) i e in
      let place : length (map insn_of whole) - 1 ≡ length code = omega (arith, size, long) in
      let at : slice_get whole (length code) ≡ Some f.0 =
      subst (λ n. slice_get whole n ≡ Some f.0) place f.1 in
      let same : Return value ≡ f.0 = same_Some (Return value) f.0 (sym (last_is code (Return value)) ∙ at) in
      subst IsReturn f.2 (subst (λ j. IsReturn (insn_of j)) same tt);
  set = λ at k earlier loads path.
      let f = found whole at loads.0 loads.1 in
      absurd (loads_nothing f.0 k (ap loaded_by f.2 ∙ loads.2));
}
  where
    whole : List Instruction
    whole = code ++ Return value ∷ []

    size : length (map insn_of whole) ≡ length whole
    size = length-map whole insn_of

    long : length whole ≡ length code + 1
    long = length-append code (Return value ∷ [])

pub form_lawful : (plan : PlanData) → length (form plan) ≤ 4096 → AreInsns (map raw_of (form plan))
    → IsLawfulProgram (map insn_of (form plan))
form_lawful plan short fields = lawful (flat_map (part_code plan) plan.parts) 0 (form_leads plan) short fields
