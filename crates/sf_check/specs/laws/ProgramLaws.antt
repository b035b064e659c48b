-- Laws of lawful programs, for proofs about them.
use Rattle.std.proofs.Common.{◌≡◌, ℕ, ◌+◌, ◌-◌, ◌<◌, List, [], ◌∷◌, length, inl, inr, arith}
use Rattle.std.specs.Prelude.{Contains}
use Rattle.std.proofs.lemmas.Option.{slice_get_within}
use Rattle.sf_check.specs.Common.{Insn, Jump, Branch, ReturnConstant, ReturnA}
use Rattle.sf_check.specs.Insns.{IsReturn, targets, successors}
use Rattle.sf_check.specs.Programs.{AllBelow, EndsInReturn, IsAt}
use Rattle.sf_check.specs.laws.ContainsLaws.{contains_cons, contains_nil}

-- a list of one element contains no other
pub only_one : (n q : ℕ) → Contains (n ∷ []) q → n ≡ q
only_one n q c = elim (contains_cons n [] q c) [ inl e ↦ e | inr none ↦ absurd (contains_nil q none) ]

-- an instruction leads only to later places
pub successor_after : (at : ℕ) (i : Insn) (q : ℕ) → Contains (successors at i) q → at < q
successor_after at i q c = grind (arith, contains_cons, contains_nil)

-- where the last instruction is a return, another one has a next place
not_last : (code : List Insn) (at : ℕ) (i : Insn) → IsAt code at i → EndsInReturn code → (IsReturn i → ⊥)
    → at + 1 < length code
not_last code at i here ends not_return =
    let within = slice_get_within code at i here in
    let last = ends i in
    grind (arith, within, last)

-- where all targets are inside and the last instruction is a return, all successors are inside
pub successors_inside : (code : List Insn) (at : ℕ) (i : Insn) → IsAt code at i → AllBelow (length code) (targets at i)
    → EndsInReturn code → AllBelow (length code) (successors at i)
successors_inside code at (ReturnConstant k) here inside ends = tt
successors_inside code at ReturnA here inside ends = tt
successors_inside code at (Jump k) here inside ends = inside
successors_inside code at (Branch test other t f) here inside ends = inside
successors_inside code at i here inside ends = (not_last code at i here ends (λ x. x), tt)

-- a number that a list contains is below the limit of the list
pub below_in : (limit : ℕ) (ns : List ℕ) (n : ℕ) → AllBelow limit ns → Contains ns n → n < limit
below_in limit [] n below c = absurd (contains_nil n c)
below_in limit (m ∷ ns) n below c = grind (arith, contains_cons m ns n c, below_in limit ns n, below.0, below.1)
