-- What the calls on a book do to it.
use Rattle.std.specs.Prelude.{◌≡◌, ◌≢◌, ℕ, ◌+◌, ◌<◌, ◌==◌, not, Bool, true, false, List, [], ◌∷◌, ◌++◌, All, filter, find, map, Option, Some, None, if◌then◌else◌, MatchOption, IsPermutation}
use Rattle.sf_book.specs.Common.{bool_cmp, Less, slice_cmp, PieceData, StepData, WorkData, Split, Settled, Empty, Fault, Foreign, Stale, Spent, Memory}
use Rattle.sf_book.specs.Books.{OutstandingData, BookData}

-- the outstanding piece under an id
abbrev pub outstanding_at : ℕ → List OutstandingData → Option OutstandingData
outstanding_at id es = find (λ e. e.id == id) es

-- the outstanding piece, put on lease or taken off
abbrev pub with_lease : Bool → OutstandingData → OutstandingData
with_lease on e = record { id = e.id; piece = e.piece; leased = on }

-- the outstanding piece; if it has this id, it is put on lease or taken off
abbrev pub with_lease_at : ℕ → Bool → OutstandingData → OutstandingData
with_lease_at id on e = record { id = e.id; piece = e.piece; leased = (if e.id == id then on else e.leased) }

-- the outstanding pieces under other ids
abbrev pub without : ℕ → List OutstandingData → List OutstandingData
without id es = filter (λ e. not (e.id == id)) es

-- the first name comes before the second in name order
abbrev pub IsBefore : List Bool → List Bool → Type 0
IsBefore m n = slice_cmp bool_cmp m n ≡ Less

-- no outstanding piece that isn't on lease has a name before this one
abbrev pub IsFirstFree : List Bool → List OutstandingData → Type 0
IsFirstFree n es = All (λ e. e.leased ≡ false → ¬ IsBefore e.piece.name n) es

-- the work is of the book's stack, and for the outstanding piece under the id
pub record MayCommit (b : BookData) (id : ℕ) (w : WorkData) : Type 0 where
  pub same_stack : w.piece.stack ≡ b.stack
  pub under_id : OutstandingData
  pub there : outstanding_at id b.outstanding ≡ Some under_id
  pub same_name : w.piece.name ≡ under_id.piece.name

-- there is no outstanding piece under the id, or it has another name
abbrev pub IsStale : ℕ → List OutstandingData → WorkData → Type 0
IsStale id es w = MatchOption (outstanding_at id es) (Unit {0}) (λ e. e.piece.name ≢ w.piece.name)

-- why a commit is refused: the work is of another stack; or it is stale; or the budget is spent; or, where none of
-- these holds, memory was lacking
abbrev pub Refuses : BookData → ℕ → WorkData → Fault → Type 0
Refuses b id w Foreign = w.piece.stack ≢ b.stack
Refuses b id w Stale = (w.piece.stack ≡ b.stack) × IsStale id b.outstanding w
Refuses b id w Spent = MayCommit b id w × (b.commits ≡ b.budget)
Refuses b id w Memory = MayCommit b id w × (b.commits < b.budget)

-- both ids are above all others, and the second one is above the first
abbrev pub AreNewIds : List OutstandingData → ℕ → ℕ → Type 0
AreNewIds es i j = All (λ e. e.id < i) es × (i < j)

-- The book after the commit: in the place of the piece under the id come the two pieces of a split, both on lease and
-- under new ids, or one region, or one emptied name.
abbrev pub CommitsAs : BookData → ℕ → PieceData → List Bool → StepData → Option (ℕ × ℕ) → BookData → Type 0
CommitsAs b id p n (Split f t) (Some ids) c =
    AreNewIds b.outstanding ids.0 ids.1
    × (c ≡ record b {
      outstanding = without id b.outstanding ++ (record { id = ids.0; piece = f; leased = true }
          ∷ record { id = ids.1; piece = t; leased = true } ∷ []);
      splits = b.splits + 1;
      commits = b.commits + 1;
    })
CommitsAs b id p n (Settled a) None c =
    c ≡ record b {
      outstanding = without id b.outstanding;
      regions = b.regions ++ record { piece = p; name = n; answer = a } ∷ [];
      commits = b.commits + 1;
    }
CommitsAs b id p n Empty None c =
    c ≡ record b { outstanding = without id b.outstanding; emptied = b.emptied ++ p.name ∷ []; commits = b.commits + 1 }
CommitsAs b id p n (Split f t) None c = ⊥
CommitsAs b id p n (Settled a) (Some ids) c = ⊥
CommitsAs b id p n Empty (Some ids) c = ⊥

-- of the pieces that aren't on lease the first in name order is leased, and nothing else changes
pub record Leases (b : BookData) (id : ℕ) (p : PieceData) (c : BookData) : Type 0 where
  pub there : outstanding_at id b.outstanding ≡ Some (record { id = id; piece = p; leased = false })
  pub first : IsFirstFree p.name b.outstanding
  pub after : c ≡ record b { outstanding = map (with_lease_at id true) b.outstanding }

-- the same book, but for the order of its regions
pub record Settles (b s : BookData) : Type 0 where
  pub stack : s.stack ≡ b.stack
  pub outstanding : s.outstanding ≡ b.outstanding
  pub regions : IsPermutation b.regions s.regions
  pub emptied : s.emptied ≡ b.emptied
  pub splits : s.splits ≡ b.splits
  pub commits : s.commits ≡ b.commits
  pub budget : s.budget ≡ b.budget
