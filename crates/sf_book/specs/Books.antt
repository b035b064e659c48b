-- What contracts see of a book, and when it is lawful: a partition of all inputs among outstanding pieces and regions.
use Rattle.std.specs.Prelude.{◌≡◌, ℕ, ◌+◌, ◌*◌, ◌<◌, ◌≤◌, Bool, true, false, List, [], ◌∷◌, length, All, count_by}
use Rattle.sf_book.specs.Common.{AllByRecursion, IsSortedByKey, bool_cmp, slice_cmp, Input, IsInput, Insn, IsLawfulStack, Answer, trace_of, Answers, IsWholeRoute, PieceData, is_member, is_prefix, IsTrulyNamed, Counts}

-- an outstanding piece, under its id, on lease or not
pub record OutstandingData : Type 0 where
  pub id : ℕ
  pub piece : PieceData
  pub leased : Bool

-- a settled piece with its whole name and the answer on its members
pub record RegionData : Type 0 where
  pub piece : PieceData
  pub name : List Bool
  pub answer : Answer

-- what contracts see of a book, and of an ended exploration
pub record BookData : Type 0 where
  pub stack : List (List Insn)
  -- in the order of their ids
  pub outstanding : List OutstandingData
  -- of a book in the order in which they settled, of an ended exploration in name order
  pub regions : List RegionData
  -- names of pieces that turned out to have no member
  pub emptied : List (List Bool)
  pub splits : ℕ
  pub commits : ℕ
  pub budget : ℕ

-- of how many outstanding pieces and regions the input is a member
abbrev pub members_of : List OutstandingData → List RegionData → Input → ℕ
members_of es rs d = count_by (λ e. is_member e.piece d) es + count_by (λ r. is_member r.piece d) rs

-- how many of the names, of outstanding pieces, of regions and of emptied pieces, are beginnings of this list of truth
-- values
abbrev pub count_beginnings : List OutstandingData → List RegionData → List (List Bool) → List Bool → ℕ
count_beginnings es rs ns t = count_by (λ e. is_prefix e.piece.name t) es + count_by (λ r. is_prefix r.name t) rs
    + count_by (λ n. is_prefix n t) ns

-- each id is below all later ones
abbrev pub HasRisingIds : List OutstandingData → Type 0
HasRisingIds [] = Unit {0}
HasRisingIds (e ∷ es) = AllByRecursion (λ f. e.id < f.id) es × HasRisingIds es

-- a piece of the stack, truly named
pub record IsOutstanding (stack : List (List Insn)) (e : OutstandingData) : Type 0 where
  pub of : e.piece.stack ≡ stack
  pub named : IsTrulyNamed e.piece

-- A region of the stack: its name is a whole route, its members are the inputs whose trace begins with the name, and
-- the stack gives each of them its answer.
pub record IsRightRegion (stack : List (List Insn)) (r : RegionData) : Type 0 where
  pub of : r.piece.stack ≡ stack
  pub route : IsWholeRoute stack r.name
  pub members : (d : Input) → IsInput d → is_member r.piece d ≡ is_prefix r.name (trace_of stack d)
  pub answers : (d : Input) → IsInput d → is_member r.piece d ≡ true → Answers stack d r.answer

-- no trace begins with the name
pub record IsNoBeginning (stack : List (List Insn)) (n : List Bool) : Type 0 where
  pub none : (d : Input) → IsInput d → is_prefix n (trace_of stack d) ≡ false

-- a book of a lawful stack that is a partition of all inputs
pub record IsLawfulBook (b : BookData) : Type 0 where
  pub stack : IsLawfulStack b.stack
  pub outstanding : All (IsOutstanding b.stack) b.outstanding
  pub regions : All (IsRightRegion b.stack) b.regions
  -- each input is a member of exactly one
  pub one : (d : Input) → IsInput d → members_of b.outstanding b.regions d ≡ 1
  pub emptied : All (IsNoBeginning b.stack) b.emptied
  -- no two names have a common continuation, so none is a beginning of another
  pub apart : (t : List Bool) → count_beginnings b.outstanding b.regions b.emptied t ≤ 1
  -- a split puts two pieces in the place of one, and each other work one region or one emptied name
  pub pieces : length b.outstanding + length b.regions + length b.emptied ≡ 1 + b.splits
  pub committed : b.commits ≡ b.splits + length b.regions + length b.emptied
  pub within : b.commits ≤ b.budget
  pub ids : HasRisingIds b.outstanding

-- a new book, with the root outstanding
abbrev pub fresh : List (List Insn) → PieceData → ℕ → BookData
fresh stack r budget = record {
  stack = stack;
  outstanding = record { id = 0; piece = r; leased = false } ∷ [];
  regions = [];
  emptied = [];
  splits = 0;
  commits = 0;
  budget = budget;
}

-- what a book keeps: it is lawful, the next id is above all ids, and each commit has used up two ids at most
pub record IsKeptBook (b : BookData) (next : ℕ) : Type 0 where
  pub lawful : IsLawfulBook b
  pub below : All (λ e. e.id < next) b.outstanding
  pub few : next ≤ 2 * b.commits + 1

-- what is counted of a book
abbrev pub counts_of : BookData → Counts
counts_of b = record {
  left = length b.outstanding;
  settled = length b.regions;
  emptied = length b.emptied;
  splits = b.splits;
  commits = b.commits;
}

-- regions in name order
abbrev pub IsInNameOrder : List RegionData → Type 0
IsInNameOrder rs = IsSortedByKey (λ r. r.name) (slice_cmp bool_cmp) rs

-- how an exploration ends: a lawful book, with its regions in name order
pub record IsSettled (b : BookData) : Type 0 where
  pub lawful : IsLawfulBook b
  pub order : IsInNameOrder b.regions
