-- The truth values that the code's steps meet.
use Rattle.sf_run.proofs.Common.{common_steps, ◌≡◌, ℕ, suc, ◌+◌, ◌-◌, ◌/◌, ◌^◌, ◌<◌, Bool, List, [], ◌∷◌, ◌++◌, Option, bit_and, refl, arith, append_assoc, ◌==◌, shr_and_one, Input, Div, Insn, LoadScratch, LoadXScratch, Alu, Branch, Constant, X, State, Progress, goes, returns, stuck, bits, insn_progress, with_a, with_x, met_at, divided, loaded}

-- one more bit of a word
pub bits_more : (xs ys whole : List Bool) (i a : ℕ) → i < 32 → ys ≡ xs ++ (bit_and (a / 2 ^ (31 - i)) 1 == 1) ∷ []
    → xs ++ bits (32 - i) a ≡ whole → ys ++ bits (32 - (i + 1)) a ≡ whole
bits_more xs ys whole i a lt pushed so_far =
    let more : 32 - i ≡ suc (31 - i) = omega arith in
    let rest : 32 - (i + 1) ≡ 31 - i = omega arith in
    let so_far' : xs ++ bits (suc (31 - i)) a ≡ whole = rw more at so_far in
    rw (pushed, rest, shr_and_one a (31 - i), append_assoc xs) so_far'

-- a step meets these truth values
abbrev Meets : List Bool → Progress → Type 0
Meets expected (goes met next) = met ≡ expected
Meets expected (returns met value) = met ≡ expected
Meets expected stuck = Unit {0}

step_meets : (d : Input) (s : State) (i : Insn) → Meets (met_at s i) (insn_progress d s i)
step_meets d s (LoadScratch k) = loaded (Meets []) s k (with_a s) tt (λ n. refl)
step_meets d s (LoadXScratch k) = loaded (Meets []) s k (with_x s) tt (λ n. refl)
step_meets d s (Alu Div X) = divided (λ b. Meets (b ∷ [])) s refl refl
step_meets d s _ = refl

pub goes_meets : (d : Input) (s : State) (i : Insn) (met : List Bool) (next : State)
    → insn_progress d s i ≡ goes met next
    → met ≡ met_at s i
goes_meets d s i met next e = rw e at (step_meets d s i)

pub returns_meets : (d : Input) (s : State) (i : Insn) (met : List Bool) (value : ℕ)
    → insn_progress d s i ≡ returns met value → met ≡ met_at s i
returns_meets d s i met value e = rw e at (step_meets d s i)

-- what is met does not depend on the place
pub met_anywhere : (p q a x : ℕ) (scratch : List (Option ℕ)) (i : Insn)
    → met_at (record { place = p; a = a; x = x; scratch = scratch }) i
    ≡ met_at (record { place = q; a = a; x = x; scratch = scratch }) i
met_anywhere p q a x scratch (Branch test (Constant k) on_true on_false) = refl
met_anywhere p q a x scratch (Branch test X on_true on_false) = refl
met_anywhere p q a x scratch (Alu Div X) = refl
met_anywhere p q a x scratch _ = refl

-- what the code has met, and the rest of the run, after a step that goes on or returns
pub met_goes_on : (code : List Insn) (d : Input) (place a x : ℕ) (scratch : List (Option ℕ)) (i : Insn)
    (met : List Bool) (next : State) (xs ys more whole : List Bool)
    → insn_progress d (record { place = place; a = a; x = x; scratch = scratch }) i ≡ goes met next
    → ys ≡ xs ++ met_at (record { place = 0; a = a; x = x; scratch = scratch }) i → xs ++ (met ++ more) ≡ whole
    → ys ++ more ≡ whole
met_goes_on code d place a x scratch i met next xs ys more whole e pushed so_far =
    grind (arith, common_steps, goes_meets, met_anywhere, append_assoc)

pub met_ends : (code : List Insn) (d : Input) (place a x : ℕ) (scratch : List (Option ℕ)) (i : Insn) (met : List Bool)
    (value : ℕ) (xs ys whole : List Bool) → insn_progress d
    (record { place = place; a = a; x = x; scratch = scratch }) i
    ≡ returns met value → ys ≡ xs ++ met_at (record { place = 0; a = a; x = x; scratch = scratch }) i
    → xs ++ met ≡ whole → ys ≡ whole
met_ends code d place a x scratch i met value xs ys whole e pushed so_far =
    grind (arith, common_steps, returns_meets, met_anywhere)
