-- How far the execution tree of a stack is unfolded, and when a book is the fringe of an unfolding.
use Rattle.std.specs.Prelude.{◌≡◌, ℕ, ◌+◌, Bool, List, [], ◌∷◌, ◌++◌, map, All}
use Rattle.sf_book.specs.Common.{IsPermutation, Insn, Answer, PieceData, Split, Settled, Empty, HasStep, IsInTree}
use Rattle.sf_book.specs.Books.{OutstandingData, RegionData, BookData, IsSettled}

-- A part of an execution tree. A branch ends in a piece that is outstanding, in one that settled, with its whole name
-- and answer, or in one that was emptied.
pub data Unfolding : Type 0 where
  Outstanding : PieceData → Unfolding
  Region : PieceData → List Bool → Answer → Unfolding
  Emptied : PieceData → Unfolding
  Fork : PieceData → Unfolding → Unfolding → Unfolding

-- the piece with which an unfolding begins
abbrev pub top_of : Unfolding → PieceData
top_of (Outstanding p) = p
top_of (Region p name answer) = p
top_of (Emptied p) = p
top_of (Fork p f t) = p

-- a piece of the stack that the rules reach
pub record IsPieceOf (stack : List (List Insn)) (p : PieceData) : Type 0 where
  pub reached : IsInTree p
  pub of : p.stack ≡ stack

-- each piece in it is one of the stack, and what became of it is its step by the rules of symbolic execution
abbrev pub IsUnfolding : List (List Insn) → Unfolding → Type 0
IsUnfolding stack (Outstanding p) = IsPieceOf stack p
IsUnfolding stack (Region p name answer) = IsPieceOf stack p × HasStep p (Settled answer) name
IsUnfolding stack (Emptied p) = IsPieceOf stack p × HasStep p Empty p.name
IsUnfolding stack (Fork p f t) = IsPieceOf stack p × HasStep p (Split (top_of f) (top_of t)) p.name
    × IsUnfolding stack f × IsUnfolding stack t

-- the names of the outstanding pieces, from left to right
abbrev pub outstanding_in : Unfolding → List (List Bool)
outstanding_in (Outstanding p) = p.name ∷ []
outstanding_in (Region p name answer) = []
outstanding_in (Emptied p) = []
outstanding_in (Fork p f t) = outstanding_in f ++ outstanding_in t

-- the names of the emptied pieces
abbrev pub emptied_in : Unfolding → List (List Bool)
emptied_in (Outstanding p) = []
emptied_in (Region p name answer) = []
emptied_in (Emptied p) = p.name ∷ []
emptied_in (Fork p f t) = emptied_in f ++ emptied_in t

-- the names of the pieces that settled
abbrev pub regions_in : Unfolding → List (List Bool)
regions_in (Outstanding p) = []
regions_in (Region p name answer) = p.name ∷ []
regions_in (Emptied p) = []
regions_in (Fork p f t) = regions_in f ++ regions_in t

-- how many pieces were split
abbrev pub forks_in : Unfolding → ℕ
forks_in (Outstanding p) = 0
forks_in (Region p name answer) = 0
forks_in (Emptied p) = 0
forks_in (Fork p f t) = 1 + forks_in f + forks_in t

-- the region's piece is one of the stack, and it settles by the rules with this whole name and answer
abbrev pub IsRegionOf : List (List Insn) → RegionData → Type 0
IsRegionOf stack r = IsPieceOf stack r.piece × HasStep r.piece (Settled r.answer) r.name

-- A book is the fringe of an unfolding of its stack, which begins with a piece of empty name. In some order, the names
-- of what is outstanding, settled and emptied are those of the ends of its branches; each outstanding piece is one that
-- the rules reach; each region is by the rules one of the stack; and there are as many splits as forks.
pub record IsFringe (b : BookData) : Type 0 where
  pub tree : Unfolding
  pub unfolds : IsUnfolding b.stack tree
  pub first : (top_of tree).name ≡ []
  pub outstanding : IsPermutation (map (λ (e : OutstandingData). e.piece.name) b.outstanding) (outstanding_in tree)
  pub regions : IsPermutation (map (λ (r : RegionData). r.piece.name) b.regions) (regions_in tree)
  pub emptied : IsPermutation b.emptied (emptied_in tree)
  pub splits : b.splits ≡ forks_in tree
  pub reached : All (λ (e : OutstandingData). IsPieceOf b.stack e.piece) b.outstanding
  pub settled : All (IsRegionOf b.stack) b.regions

-- Two explorations have one result: the same regions in the same order, the same emptied names, and the same numbers of
-- splits and commits.
pub record HaveOneOutcome (b c : BookData) : Type 0 where
  pub regions : b.regions ≡ c.regions
  pub emptied : IsPermutation b.emptied c.emptied
  pub splits : b.splits ≡ c.splits
  pub commits : b.commits ≡ c.commits

-- What the rules of symbolic execution promise of explorations: those of one stack that both ended with nothing
-- outstanding have one result.
abbrev pub ExplorationsHaveOneResult : Type 0
ExplorationsHaveOneResult = (b c : BookData) → IsSettled b → IsSettled c → IsFringe b → IsFringe c → b.stack ≡ c.stack
    → b.outstanding ≡ [] → c.outstanding ≡ [] → HaveOneOutcome b c
