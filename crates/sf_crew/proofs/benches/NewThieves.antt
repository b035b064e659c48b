-- One more thief.
use Rattle.sf_crew.proofs.Common.{◌≡◌, ℕ, ◌+◌, List, [], ◌∷◌, ◌++◌, length, ap, ◌∙◌, arith, Thief, new_view, thief_view, AreThieves}

pub one_thief_more : {T : Type 0} (n m : ℕ) (ts : List (Thief T)) (t : Thief T) → AreThieves n ts → m ≡ n + length ts
    → thief_view t ≡ new_view m 0 → AreThieves n (ts ++ t ∷ [])
one_thief_more n m [] t all e seen = (seen ∙ ap (λ j. new_view j 0) (omega arith), tt)
one_thief_more n m (x ∷ ts) t all e seen = (all.0, one_thief_more (n + 1) m ts t all.1 (omega arith) seen)
