-- A written filter returns on the machine what its instructions return.
use Rattle.sf_profile.proofs.Common.{◌≡◌, ℕ, zero, suc, ◌+◌, List, [], ◌∷◌, ◌++◌, Bool, map, Some, None, slice_get, option_map, refl, ap, ◌∙◌, subst, sym, arith, bit_and, if◌then◌else◌, slice_index, replicate, slice_get-map, Input, And, passes, Insn, Constant, IsAt, IsLawfulProgram, State, goes, insn_progress, run_for, return_of, run_more, run_ends, value_is, Instruction, Load, Mask, Branch, Skip, Return}
use Rattle.sf_check.specs.declared.insn.Insn.TheVariants as insns
use Rattle.sf_profile.proofs.Returns.{returned}

-- the instruction of the machine
abbrev pub insn_of : Instruction → Insn
insn_of (Load word) = insns.LoadWord word
insn_of (Mask k) = insns.Alu And (Constant k)
insn_of (Branch test k on_true on_false) = insns.Branch test (Constant k) on_true on_false
insn_of (Skip k) = insns.Jump k
insn_of (Return k) = insns.ReturnConstant k

-- the machine at a place, with an A
abbrev state_at : ℕ → ℕ → State
state_at place a = record { place = place; a = a; x = 0; scratch = replicate 16 None }

-- a run from a place comes to an end, and returns this value
abbrev Ends : List Insn → Input → ℕ → ℕ → ℕ → Type 0
Ends program d place a v = (n : ℕ) × (met : List Bool) × (run_for n program d (state_at place a) ≡ Some (met, v))

-- from a place on the program has these instructions
abbrev Stand : List Insn → ℕ → List Instruction → Type 0
Stand program place code = (j : ℕ) (i : Instruction) → slice_get code j ≡ Some i → IsAt program (place + j) (insn_of i)

stand_head : (program : List Insn) (place p : ℕ) (i : Instruction) (code : List Instruction)
    → Stand program place (i ∷ code) → p ≡ place + 0 → IsAt program p (insn_of i)
stand_head program place p i code h e = subst (λ q. IsAt program q (insn_of i)) (sym e) (h 0 i refl)

stand_tail : (program : List Insn) (place : ℕ) (i : Instruction) (code : List Instruction)
    → Stand program place (i ∷ code) → Stand program (place + 1) code
stand_tail program place i code h =
    λ j k at. subst (λ q. IsAt program q (insn_of k)) (omega arith) (h (suc j) k at)

-- one step more
goes_on : (program : List Insn) (d : Input) (p q a b v : ℕ) (i : Insn) (met : List Bool) → IsAt program p i
    → insn_progress d (state_at p a) i ≡ goes met (state_at q b) → Ends program d q b v → Ends program d p a v
goes_on program d p q a b v i met at e rest =
    (suc rest.0, met ++ rest.1, run_more rest.0 program d (state_at p a) i met (state_at q b) (rest.1, v) at e rest.2)

returned_ends : (program : List Insn) (d : Input) (code : List Instruction) (place p skip a v : ℕ)
    → Stand program place code → p ≡ place + skip → returned code d skip a ≡ Some v → Ends program d p a v
returned_ends program d [] place p skip a v h e r = absurd cc
returned_ends program d (i ∷ code) place p (suc skip) a v h e r =
    returned_ends program d code (place + 1) p skip a v (stand_tail program place i code h) (omega arith) r
returned_ends program d (Load word ∷ code) place p zero a v h e r =
    goes_on program d p (p + 1) a (slice_index d.words word) v (insns.LoadWord word) []
    (stand_head program place p (Load word) code h e) refl
    (returned_ends program d code (place + 1) (p + 1) zero (slice_index d.words word) v
    (stand_tail program place (Load word) code h) (omega arith) r)
returned_ends program d (Mask k ∷ code) place p zero a v h e r =
    goes_on program d p (p + 1) a (bit_and a k) v (insns.Alu And (Constant k)) []
    (stand_head program place p (Mask k) code h e) refl
    (returned_ends program d code (place + 1) (p + 1) zero (bit_and a k) v
    (stand_tail program place (Mask k) code h) (omega arith) r)
returned_ends program d (Branch test k on_true on_false ∷ code) place p zero a v h e r =
    let far = if passes test a k then on_true else on_false in
    goes_on program d p (p + 1 + far) a a v (insns.Branch test (Constant k) on_true on_false) (passes test a k ∷ [])
    (stand_head program place p (Branch test k on_true on_false) code h e) refl
    (returned_ends program d code (place + 1) (p + 1 + far) far a v
    (stand_tail program place (Branch test k on_true on_false) code h) (omega arith) r)
returned_ends program d (Skip k ∷ code) place p zero a v h e r =
    goes_on program d p (p + 1 + k) a a v (insns.Jump k) []
    (stand_head program place p (Skip k) code h e) refl
    (returned_ends program d code (place + 1) (p + 1 + k) k a v
    (stand_tail program place (Skip k) code h) (omega arith) r)
returned_ends program d (Return k ∷ code) place p zero a v h e r =
    let same : k ≡ v = cc in (
      1,
      [],
      subst (λ w. run_for 1 program d (state_at p a) ≡ Some ([], w)) same
          (run_ends program d (state_at p a) (insns.ReturnConstant k) [] k
          (stand_head program place p (Return k) code h e) refl),
    )

stands : (code : List Instruction) → Stand (map insn_of code) 0 code
stands code = λ j i at. subst (λ q. IsAt (map insn_of code) q (insn_of i)) (omega arith)
    (slice_get-map insn_of code j ∙ ap (option_map insn_of) at)

-- a lawful filter returns what its instructions return
pub return_is : (code : List Instruction) (d : Input) (v : ℕ) → IsLawfulProgram (map insn_of code)
    → returned code d 0 0 ≡ Some v → return_of (map insn_of code) d ≡ v
return_is code d v lawful r =
    let ends = returned_ends (map insn_of code) d code 0 0 0 0 v (stands code) (omega arith) r in
    sym (value_is ends.0 (map insn_of code) d (ends.1, v) lawful ends.2)
