-- Names that are listed once.
use Rattle.sf_profile.proofs.Common.{common_steps, arith, ◌≡◌, ℕ, List, map, Bor, bytes_eq, map_push, insert_key, with_name}
use Rattle.sf_profile.proofs.tree.TreeLemmas.{any_now}

-- a name more in a set of names, which has it already or gets it last
pub insert_name : (name : Bor (List ℕ)) (names : List (Bor (List ℕ)))
    → map (λ n. n.now) (insert_key (λ n k. bytes_eq n.now k.now) names name)
    ≡ with_name (map (λ n. n.now) names) name.now
unfolding with_name
insert_name name names = grind (arith, common_steps, map_push, any_now)
