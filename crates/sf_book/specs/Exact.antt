-- Books in which each piece and region has a member, as on a plain stack, and books whose regions are named by a list
-- of traces.
use Rattle.std.specs.Prelude.{◌≡◌, ◌+◌, ◌*◌, Bool, true, List, [], All, length, map}
use Rattle.sf_book.specs.Common.{Input, IsInput, PieceData, is_member}
use Rattle.sf_book.specs.Books.{OutstandingData, RegionData, BookData}

-- some input is a member
abbrev pub HasMember : PieceData → Type 0
HasMember p = (d : Input) × IsInput d × (is_member p d ≡ true)

-- each outstanding piece and each region has a member, and no piece was emptied
pub record HasMembers (b : BookData) : Type 0 where
  pub outstanding : All (λ (e : OutstandingData). HasMember e.piece) b.outstanding
  pub regions : All (λ (r : RegionData). HasMember r.piece) b.regions
  pub emptied : b.emptied ≡ []

-- The regions have exactly these names, in this order. Nothing is outstanding, and no piece was emptied. For n names
-- there were 2 * n - 1 commits.
pub record IsWorkedOff (b : BookData) (traces : List (List Bool)) : Type 0 where
  pub names : map (λ (r : RegionData). r.name) b.regions ≡ traces
  pub outstanding : b.outstanding ≡ []
  pub emptied : b.emptied ≡ []
  pub commits : b.commits + 1 ≡ 2 * length traces
