-- Which file failed, of those that are read one after the other.
use Rattle.sf_evaluate.proofs.Common.{arith, common_steps, ◌≡◌, ◌⊎◌, inl, inr, ℕ, ◌<◌, List, [], Option, Bor, get_or, length, IfErr, None, Some, Result, Ok, Err, slice_get, slice_get-get_or, Fault, IsFile, IsGivenFile, NamesFailed, FileRole, FileRead}
use Rattle.sf_stack.specs.declared.fault.Fault.TheVariants as faults

-- what holds of each error holds of the one that a call gives, if it gives one
pub each_error : {T : Type 0} (r : Result T Fault) (P : Fault → Type 0) → ((e : Fault) → P e) → IfErr r P
each_error (Ok x) P holds = tt
each_error (Err e) P holds = holds e

-- a file that was given is named
pub given_named : (e : Fault) (role : FileRole) (given : Option (List ℕ)) (path : List ℕ) (named : Option FileRead)
    → given ≡ Some path → (e ≡ faults.Memory) ⊎ IsFile role path named
    → (e ≡ faults.Memory) ⊎ IsGivenFile role given named
given_named e role given path named is (inl memory) = inl memory
given_named e role given path named is (inr file) = inr (path, is, file)

-- the path at a place
abbrev pub path_at : List (Bor (List ℕ)) → ℕ → Bor (List ℕ)
path_at paths place = get_or paths place (record { ref_ptr = (0, 0); now = [] })

module _ (holds : List ℕ → Option (List ℕ)) (role : FileRole) (paths : List (Bor (List ℕ))) (place : ℕ)
    (named : Option FileRead) (Why : ℕ → List ℕ → Type 0) (e : Fault) (inside : place < length paths)
    (file : (e ≡ faults.Memory) ⊎ IsFile role (path_at paths place).now named) where
  here : slice_get paths place ≡ Some (path_at paths place)
  here = slice_get-get_or paths place (record { ref_ptr = (0, 0); now = [] }) inside

  -- a file can't be read, and is named
  pub unread_named : ((e ≡ faults.Read) × (holds (path_at paths place).now ≡ None)) ⊎ (e ≡ faults.Memory)
      → NamesFailed role holds paths named Why e
  unread_named why = let at = here in grind (arith, common_steps)

  -- a file can't be read, or is refused, and is named
  pub refused_named : (Refused : Type 0) → (Refused → Why place (path_at paths place).now)
      → ((e ≡ faults.Read) × (holds (path_at paths place).now ≡ None)) ⊎ (e ≡ faults.Memory) ⊎ Refused
      → NamesFailed role holds paths named Why e
  refused_named Refused means why = let at = here in grind (arith, common_steps)
