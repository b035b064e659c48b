-- The outstanding piece under an id: what holds of all pieces holds of it, and it is found on lease once it is leased.
use Rattle.std.proofs.Common.{◌≡◌, ℕ, ◌==◌, Bool, true, false, cond, List, [], ◌∷◌, map, Some, ap, subst, sym, ◌∙◌}
use Rattle.sf_book.specs.Common.{All}
use Rattle.std.proofs.lemmas.Option.{get_or_from_slice_get, same_Some, slice_get_within}
use Rattle.std.proofs.lemmas.List.Folds.{find_at}
use Rattle.sf_book.specs.Books.{OutstandingData}
use Rattle.sf_book.specs.Changes.{outstanding_at, with_lease_at}

-- what holds of all outstanding pieces holds of the one under an id
pub all_at : (P : OutstandingData → Type 0) (es : List OutstandingData) (id : ℕ) (e : OutstandingData) → All P es
    → outstanding_at id es ≡ Some e → P e
all_at P es id e h at =
    let there = sym (find_at (λ (x : OutstandingData). x.id == id) es) ∙ at in
    subst P (get_or_from_slice_get es _ e e there) (h _ e (slice_get_within es _ e there))

-- the piece under an id, on lease
pub leased_at : (es : List OutstandingData) (id : ℕ) (e : OutstandingData) → outstanding_at id es ≡ Some e
    → outstanding_at id (map (with_lease_at id true) es) ≡ Some (with_lease_at id true e)
leased_at [] id e at = absurd cc
leased_at (x ∷ es) id e at = by (x.id == id) at (λ k. leased_at es id e k)
  where
    by : (b : Bool) → cond b (Some x) (outstanding_at id es) ≡ Some e
        → (outstanding_at id es ≡ Some e → outstanding_at id (map (with_lease_at id true) es)
        ≡ Some (with_lease_at id true e))
        → cond b (Some (with_lease_at id true x)) (outstanding_at id (map (with_lease_at id true) es))
        ≡ Some (with_lease_at id true e)
    by true at rest = ap (λ k. Some (with_lease_at id true k)) (same_Some x e at)
    by false at rest = rest at
