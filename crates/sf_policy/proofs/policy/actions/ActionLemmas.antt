-- The set of the actions that an array names.
use Rattle.sf_policy.proofs.Common.{◌≡◌, ℕ, List, [], ◌∷◌, ◌||◌, ◌&&◌, not, length, map, refl, ap, list_any, list_all, bytes_eq, view, Value, eqb-suc-zero, list_all-map, is_action, are_actions, is_text_among, text_or_empty, ◌==◌}

pub is_named_view : (name : List ℕ) (vs : List Value) → is_text_among (map (λ v. text_or_empty (view v)) vs) name
    ≡ list_any (λ v. bytes_eq (text_or_empty (view v)) name) vs
is_named_view name [] = refl
is_named_view name (v ∷ vs) = ap (λ b. bytes_eq (text_or_empty (view v)) name || b) (is_named_view name vs)

pub are_actions_view : (vs : List Value) → are_actions (map (λ v. text_or_empty (view v)) vs)
    ≡ (not (length vs == 0) && list_all (λ v. is_action (text_or_empty (view v))) vs)
are_actions_view [] = refl
are_actions_view (v ∷ vs) = rw (eqb-suc-zero (length vs))
    (list_all-map is_action (λ v. text_or_empty (view v)) (v ∷ vs))
