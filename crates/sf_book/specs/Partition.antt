-- What the counts of a lawful book say, piece by piece and name by name.
use Rattle.std.specs.Prelude.{◌≡◌, ℕ, Bool, true, List, ◌++◌, map, slice_get, Some}
use Rattle.sf_book.specs.Common.{Input, PieceData, is_member, is_prefix}
use Rattle.sf_book.specs.Books.{OutstandingData, RegionData, BookData}

-- the pieces among which a book parts the inputs: those that are outstanding, and those of its regions
abbrev pub parts_of : BookData → List PieceData
parts_of b = map (λ (e : OutstandingData). e.piece) b.outstanding ++ map (λ (r : RegionData). r.piece) b.regions

-- the names of a book: of outstanding pieces, of regions, and of pieces without a member
abbrev pub names_of : BookData → List (List Bool)
names_of b = map (λ (e : OutstandingData). e.piece.name) b.outstanding
    ++ map (λ (r : RegionData). r.name) b.regions ++ b.emptied

-- the input is a member of the piece at one place, and of no other
pub record LiesInOne (pieces : List PieceData) (d : Input) : Type 0 where
  pub place : ℕ
  pub piece : PieceData
  pub there : slice_get pieces place ≡ Some piece
  pub member : is_member piece d ≡ true
  pub only : (i : ℕ) (p : PieceData) → slice_get pieces i ≡ Some p → is_member p d ≡ true → i ≡ place

-- no name begins the name at another place
pub record NoneBeginsAnother (names : List (List Bool)) : Type 0 where
  pub one_place : (i j : ℕ) (m n : List Bool) → slice_get names i ≡ Some m → slice_get names j ≡ Some n
      → is_prefix m n ≡ true → i ≡ j
