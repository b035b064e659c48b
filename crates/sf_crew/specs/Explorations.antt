-- Turns of a worker, and where an exploration ends.
use Rattle.std.specs.Prelude.{◌≡◌, ℕ, ◌+◌, ◌*◌, ◌<◌, ◌≤◌, ◌↔◌, List, [], All, length, true, false, Some, ◌⊎◌}
use Rattle.sf_crew.specs.Common.{arc_value, OutstandingData, BookData, IsSettled, Insn, feasible_traces, outstanding_at, without, Lease, IsFringe, IsWorkedOff}

-- nothing is outstanding, or all commits are spent
abbrev pub IsExhausted : BookData → Type 0
IsExhausted b = (b.outstanding ≡ []) ⊎ (b.commits ≡ b.budget)

-- no piece is on lease
abbrev pub IsFree : List OutstandingData → Type 0
IsFree es = All (λ e. e.leased ≡ false) es

-- both books are of one stack and budget
pub record IsSameExploration (b c : BookData) : Type 0 where
  pub stack : c.stack ≡ b.stack
  pub budget : c.budget ≡ b.budget

-- The lease's piece may be worked, and its work committed: it is on lease under its id, no other piece is, and the
-- budget isn't spent.
pub record MayWork (b : BookData) (x : Lease) : Type 0 where
  pub there : outstanding_at x.id b.outstanding ≡ Some (record { id = x.id; piece = arc_value x.piece; leased = true })
  pub others : IsFree (without x.id b.outstanding)
  pub room : b.commits < b.budget

-- there is one commit more, and no piece is on lease
pub record TakesTurn (b c : BookData) : Type 0 where
  pub commits : c.commits ≡ b.commits + 1
  pub free : IsFree c.outstanding

-- An exploration of the stack came to its end: nothing is outstanding, or the budget is spent. Its book is lawful, and
-- is the fringe of the stack's execution tree, as far as that was unfolded.
pub record IsExplorationOf (stack : List (List Insn)) (budget : ℕ) (s : BookData) : Type 0 where
  pub settled : IsSettled s
  pub of : s.stack ≡ stack
  pub with : s.budget ≡ budget
  pub end : IsExhausted s
  pub fringe : IsFringe s

-- The end of an exploration of a plain stack. Nothing is outstanding exactly where the budget is enough for its
-- feasible traces (n of them take 2 * n - 1 commits), and then these are the names of its regions, in their order.
pub record IsExactExploration (stack : List (List Insn)) (budget : ℕ) (s : BookData) : Type 0 where
  pub enough : (s.outstanding ≡ []) ↔ (2 * length (feasible_traces stack) ≤ budget + 1)
  pub worked : s.outstanding ≡ [] → IsWorkedOff s (feasible_traces stack)
