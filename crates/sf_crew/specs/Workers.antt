-- What a worker's calls do to the book, and to the handles that the worker has: the owner of its own bench, and a thief
-- on each other bench.
use Rattle.std.specs.Prelude.{◌≡◌, ℕ, ◌⊎◌, ◌<◌, false, List, map, set, Option, Some, None, slice_get}
use Rattle.sf_crew.specs.Common.{option_map, arc_value, PieceData, StepData, WorkData, Split, Settled, Empty, IsRightWork, children_of, Lease, BookData, MayCommit, CommitsAs, with_lease_at, HandleView, Thief, Made, Worker}
use Rattle.sf_crew.specs.History.{Puts, GetsFirst, AllGot}
use Rattle.sf_crew.specs.Benches.{owner_view, thief_view}

-- the book with the piece under the id off lease
abbrev pub given_back : ℕ → BookData → BookData
given_back id b = record b { outstanding = map (with_lease_at id false) b.outstanding }

-- the work was committed under the id, and the leases are of its children: each has the id under which the book has its
-- piece, and that piece
pub record HandsIn (b : BookData) (id : ℕ) (w : WorkData) (children : Option (Lease × Lease))
    (c : BookData) : Type 0 where
  pub may : MayCommit b id w
  pub room : b.commits < b.budget
  pub done : CommitsAs b id w.piece w.name w.step (option_map (λ h. (h.0.id, h.1.id)) children) c
  pub pieces : option_map (λ h. (arc_value h.0.piece, arc_value h.1.piece)) children ≡ children_of w.step

-- the children that were made are those of the work's step
abbrev pub HasItsChildren : Made → Type 0
HasItsChildren m = option_map (λ c. (arc_value c.0, arc_value c.1)) m.children ≡ children_of m.work.step

-- a right work of the piece, and its children
pub record IsMadeOf (p : PieceData) (m : Made) : Type 0 where
  pub piece : m.work.piece ≡ p
  pub right : IsRightWork m.work
  pub children : HasItsChildren m

-- what thieves know
abbrev pub thief_views : List (Thief Lease) → List (HandleView Lease)
thief_views ts = map thief_view ts

-- what a worker knows of its own bench
abbrev pub own_view : {N : Type 0} → Worker N → HandleView Lease
own_view w = owner_view w.own.owner

-- what it knows of the other benches
abbrev pub other_views : {N : Type 0} → Worker N → List (HandleView Lease)
other_views w = thief_views w.others.thieves.items

-- one of the thieves got the lease, and the others did nothing
pub record GetsOne (vs : List (HandleView Lease)) (x : Lease) (ws : List (HandleView Lease)) : Type 0 where
  pub place : ℕ
  pub before : HandleView Lease
  pub after : HandleView Lease
  pub there : slice_get vs place ≡ Some before
  pub gets : GetsFirst before x after
  pub rest : ws ≡ set vs place after

-- one of the thieves got the lease, or none did anything
abbrev pub Steals : List (HandleView Lease) → Option Lease → List (HandleView Lease) → Type 0
Steals vs None ws = ws ≡ vs
Steals vs (Some x) ws = GetsOne vs x ws

-- the worker's handles did nothing
abbrev pub IsIdle : {N : Type 0} → Worker N → Worker N → Type 0
IsIdle v w = (own_view w ≡ own_view v) × (other_views w ≡ other_views v)

-- A worker finds a lease in one of three ways. It got the lease from its own bench. Or nothing was left there, and one
-- of its thieves got it elsewhere. Or nothing was left there, and its handles did nothing: then the lease comes from
-- the book, which isn't said here, since other workers have the book next.
abbrev pub Finds : {N : Type 0} → Worker N → Lease → Worker N → Type 0
Finds v x w =
    (GetsFirst (own_view v) x (own_view w) × (other_views w ≡ other_views v))
    ⊎ (AllGot (own_view v) × (own_view w ≡ own_view v) × GetsOne (other_views v) x (other_views w))
    ⊎ (AllGot (own_view v) × IsIdle v w)

-- the worker holds its next lease; or nothing was left on its own bench, and no lease was stolen
abbrev pub HoldsNext : {N : Type 0} → Worker N → Option Lease → Worker N → Type 0
HoldsNext v None w = AllGot (own_view v) × IsIdle v w
HoldsNext v (Some x) w = Finds v x w

-- the lease was put; or it was refused, and the handle did nothing
abbrev pub PutsOrNot : HandleView Lease → Lease → HandleView Lease → Type 0
PutsOrNot v x w = Puts v x w ⊎ (w ≡ v)

-- some lease of the piece was put; or it was refused, and the handle did nothing
abbrev pub PutsPiece : HandleView Lease → PieceData → HandleView Lease → Type 0
PutsPiece v p w = (x : Lease) × (arc_value x.piece ≡ p) × PutsOrNot v x w

-- the pieces of a split were put, the false one first; or the put was refused
abbrev pub PutsChildren : HandleView Lease → StepData → HandleView Lease → Type 0
PutsChildren v (Split f t) w = (u : HandleView Lease) × PutsPiece v f u × PutsPiece u t w
PutsChildren v (Settled a) w = w ≡ v
PutsChildren v Empty w = w ≡ v

-- a right work of the lease's piece was made, and its children were put on the worker's own bench, or refused there
pub record WorksOn {N : Type 0} (x : Lease) (v w : Worker N) : Type 0 where
  pub work : WorkData
  pub piece : work.piece ≡ arc_value x.piece
  pub right : IsRightWork work
  pub children : PutsChildren (own_view v) work.step (own_view w)
