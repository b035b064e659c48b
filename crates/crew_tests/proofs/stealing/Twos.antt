-- A bench with one thief, which is joined.
use Rattle.std.proofs.Common.{◌≡◌, ℕ, zero, suc, ◌<◌, List, [], ◌∷◌, ◌++◌, Contains, refl, sym, ap, ◌∙◌, subst, arith}
use Rattle.std.proofs.lemmas.List.{map-append}
use Rattle.sf_book.specs.declared.book.Lease.{Lease}
use Rattle.sf_crew.specs.declared.benches.history.End.{End}
use Rattle.sf_crew.specs.declared.benches.history.HandleView.{HandleView}
use Rattle.sf_crew.specs.History.{numbers_of, KeepsHandles, IsWhole, view_of_both}

-- an owner that has made one thief, and this thief; neither took in another handle
abbrev pub AreTwo : HandleView Lease → HandleView Lease → Type 0
AreTwo v w = (v.made ≡ 2) × (numbers_of v.ends ≡ 0 ∷ []) × (numbers_of w.ends ≡ 1 ∷ [])

both_at : (i : ℕ) → i < 2 → Contains (0 ∷ 1 ∷ []) i
both_at zero lt = (0, omega arith, refl)
both_at (suc zero) lt = (1, omega arith, refl)
both_at (suc (suc i)) lt = absurd (omega arith)

-- the two joined are all
pub whole_of_two : (v w u : HandleView Lease) → AreTwo v w → u ≡ view_of_both v w → IsWhole u
whole_of_two v w u two is =
    let made : u.made ≡ 2 = ap (λ (x : HandleView Lease). x.made) is ∙ two.0 in
    let numbers : numbers_of u.ends ≡ 0 ∷ 1 ∷ [] =
    ap (λ (x : HandleView Lease). numbers_of x.ends) is
    ∙ map-append (λ (e : End Lease). e.number) v.ends w.ends
    ∙ (λ i. two.1 i ++ two.2 i) in
    (omega arith, λ i lt. subst (λ (l : List ℕ). Contains l i) (sym numbers) (both_at i (omega arith)))

-- steps of the two leave them the two
pub two_kept : (v w x y : HandleView Lease) → AreTwo v w → KeepsHandles v x → KeepsHandles w y → AreTwo x y
two_kept v w x y two a b = (a.made ∙ two.0, a.numbers ∙ two.1, b.numbers ∙ two.2)
