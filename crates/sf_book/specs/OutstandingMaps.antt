-- The two maps of a book: one has each outstanding piece under its id, the other has under its name whether it is on
-- lease.
use Rattle.std.specs.Prelude.{◌≡◌, ℕ, true, false, List, map, Option, Some, refl}
use Rattle.sf_book.specs.Common.{bool_cmp, is_eq, nat_cmp, eq_by_cmp, Ordering, IsTotalOrder, on_total, slice_cmp, is_at, lookup, keys_of, IsStrictlySortedBy, option_map_or, PieceData, LeaseState}
use Rattle.sf_run.specs.laws.FeasibleLaws.{names_total}
use Rattle.sf_book.specs.Books.{OutstandingData}
use Rattle.sf_book.specs.Changes.{outstanding_at, with_lease_at, IsFirstFree}

-- how two pieces compare by their names, in name order
abbrev pub name_cmp : PieceData → PieceData → Ordering
name_cmp p q = slice_cmp bool_cmp p.name q.name

-- that order is total
pub name_total : IsTotalOrder name_cmp
name_total = on_total (λ (p : PieceData). p.name) names_total

-- two names are equal exactly where they compare as equal
pub name_ties : (p q : PieceData) → eq_by_cmp name_cmp p q ≡ is_eq (name_cmp p q)
name_ties p q = refl

-- the piece under an id
abbrev pub piece_at : List (ℕ × PieceData) → ℕ → Option PieceData
piece_at ids i = lookup (is_at (nat_cmp i)) ids

-- what stands under the name of a piece: an id, and whether it is on lease
abbrev pub lease_state_of : List (PieceData × LeaseState) → PieceData → Option LeaseState
lease_state_of names p = lookup (is_at (name_cmp p)) names

-- an outstanding piece; what stands under its name says whether it is on lease, and where nothing stands there, it
-- counts as leased
abbrev pub outstanding_of : List (PieceData × LeaseState) → ℕ × PieceData → OutstandingData
outstanding_of names e = record {
  id = e.0;
  piece = e.1;
  leased = option_map_or (λ (m : LeaseState). m.leased) (lease_state_of names e.1) true;
}

-- the outstanding pieces, in the order of their ids
abbrev pub outstanding_list : List (ℕ × PieceData) → List (PieceData × LeaseState) → List OutstandingData
outstanding_list ids names = map (outstanding_of names) ids

-- both maps are in order; each piece's id stands under its name, and what stands under a name is of a piece with that
-- name
pub record AreMatchingMaps (ids : List (ℕ × PieceData)) (names : List (PieceData × LeaseState)) : Type 0 where
  pub rising : IsStrictlySortedBy nat_cmp (keys_of ids)
  pub sorted : IsStrictlySortedBy name_cmp (keys_of names)
  pub named : (i : ℕ) (p : PieceData) → piece_at ids i ≡ Some p → (m : LeaseState)
      × (lease_state_of names p ≡ Some m) × (m.id ≡ i)
  pub known : (q : PieceData) (m : LeaseState) → lease_state_of names q ≡ Some m → (p : PieceData)
      × (piece_at ids m.id ≡ Some p)
      × (p.name ≡ q.name)

-- of the pieces that aren't on lease the first in name order is put on lease
pub record LeasesFirst (es : List OutstandingData) (id : ℕ) (p : PieceData) (fs : List OutstandingData) : Type 0 where
  pub there : outstanding_at id es ≡ Some (record { id = id; piece = p; leased = false })
  pub first : IsFirstFree p.name es
  pub after : fs ≡ map (with_lease_at id true) es
