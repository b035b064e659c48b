-- The handles of a bench.
use Rattle.std.specs.Prelude.{◌≡◌, ℕ, ◌+◌, List, [], ◌∷◌}
use Rattle.sf_crew.specs.Common.{view, taken, worker_view, worker_deque, stealer_deque, Owner, Thief, HandleView}
use Rattle.sf_crew.specs.History.{new_view}

module _ {T : Type 0} where
  -- what the owner knows of the bench
  abbrev pub owner_view : Owner T → HandleView T
  owner_view o = worker_view o.worker

  -- what a thief knows of its bench
  abbrev pub thief_view : Thief T → HandleView T
  thief_view t = view t.pass

  -- how many items the thief has seen to have left the bench, whoever got them
  abbrev pub seen_gone : Thief T → ℕ
  seen_gone t = taken t.pass

  -- the thief is on the owner's bench
  abbrev pub IsOnBench : Owner T → Thief T → Type 0
  IsOnBench o t = stealer_deque t.stealer ≡ worker_deque o.worker

  -- the owner of the same bench
  abbrev pub IsSameBench : Owner T → Owner T → Type 0
  IsSameBench o p = worker_deque p.worker ≡ worker_deque o.worker

  -- a thief on the same bench
  abbrev pub IsSameThief : Thief T → Thief T → Type 0
  IsSameThief t u = stealer_deque u.stealer ≡ stealer_deque t.stealer

  -- new thieves, which know of no step yet, and whose numbers are n, n + 1 and so on
  abbrev pub AreThieves : ℕ → List (Thief T) → Type 0
  AreThieves n [] = Unit {0}
  AreThieves n (t ∷ ts) = (thief_view t ≡ new_view n 0) × AreThieves (n + 1) ts
