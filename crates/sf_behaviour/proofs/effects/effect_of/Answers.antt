use Rattle.sf_behaviour.proofs.Common.{◌≡◌, ℕ, ◌+◌, ◌<◌, [], None, State, goes, load_progress, next_with, register_number, set_progress, unmet, unwrap_or-slice_get, refl, arith, A, X}
use Rattle.sf_behaviour.proofs.effects.effect_of.Goals as goal

-- what a load of a scratch word does to a state
load-does : (s : State) (r k : ℕ)
    → unmet (load_progress s k (λ n. goes [] (next_with s r n))) ≡ set_progress s r (register_number s (2 + k))
load-does s r k = grind (arith, unwrap_or-slice_get s.scratch k None)

pub returns-in-LoadScratch : goal.returns-in-LoadScratch
returns-in-LoadScratch c =
    let few : c.in-LoadScratch.k < 16 = rw c.in-LoadScratch.is at c.requires in
    rw c.in-LoadScratch.is
    (record { does = λ d s. load-does s A c.in-LoadScratch.k; leads = λ at. refl; there = (omega arith, omega arith) })

pub returns-in-LoadXScratch : goal.returns-in-LoadXScratch
returns-in-LoadXScratch c =
    let few : c.in-LoadXScratch.k < 16 = rw c.in-LoadXScratch.is at c.requires in
    rw c.in-LoadXScratch.is
    (record { does = λ d s. load-does s X c.in-LoadXScratch.k; leads = λ at. refl; there = (omega arith, omega arith) })
