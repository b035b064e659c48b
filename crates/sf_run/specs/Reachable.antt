-- What a step keeps and where it leads, and the states that a run may come to.
use Rattle.std.specs.Prelude.{◌≡◌, ℕ, ◌<◌, Bool, List, ◌∷◌, ◌++◌, length, Option, Some, slice_get, Contains, Any}
use Rattle.sf_run.specs.Common.{Insn, stored_by, successors, IsPath, Stores}
use Rattle.sf_run.specs.Machine.{State}

-- the end of a run, with these truth values put before those that it met
abbrev pub put : List Bool → List Bool × ℕ → List Bool × ℕ
put met o = (met ++ o.0, o.1)

-- there are as many scratch words as before; those that were set are set, and so is the one that the instruction stores
pub record Keeps (i : Insn) (old new : List (Option ℕ)) : Type 0 where
  pub size : length new ≡ length old
  pub kept : (k n : ℕ) → slice_get old k ≡ Some (Some n) → (m : ℕ) × (slice_get new k ≡ Some (Some m))
  pub stored : (k : ℕ) → stored_by i ≡ Some k → k < length old → (m : ℕ) × (slice_get new k ≡ Some (Some m))

-- the step leads to a place where the instruction may lead, and keeps set scratch words set
pub record Moves (i : Insn) (s next : State) : Type 0 where
  pub leads : Contains (successors s.place i) next.place
  pub keeps : Keeps i s.scratch next.scratch

-- A state that a run of the program may reach. Its place is in the program, and it has sixteen scratch words. Some path
-- leads to its place, and each scratch word that an earlier instruction of this path stores is set.
pub record IsReachable (code : List Insn) (s : State) : Type 0 where
  pub inside : s.place < length code
  pub sixteen : length s.scratch ≡ 16
  pub earlier : List ℕ
  pub path : IsPath code (s.place ∷ earlier)
  pub set_words : (k : ℕ) → Any (Stores code k) earlier → (n : ℕ) × (slice_get s.scratch k ≡ Some (Some n))
