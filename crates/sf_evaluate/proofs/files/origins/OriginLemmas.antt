-- Where the questions of one policy file stand, one after the other.
use Rattle.sf_evaluate.proofs.Common.{◌≡◌, ℕ, ◌+◌, List, [], ◌∷◌, ◌++◌, append_assoc, ◌∙◌, ap, map, length_push, map-append, All-push, Data, view, Value, AreOriginsOf, IsOrigin}

-- one more question stands there
pub one_origin : (path : List ℕ) (place : ℕ) (first more : List Data) (before after : List Value) (v : Value)
    → AreOriginsOf path place more → map view before ≡ first ++ more → after ≡ before ++ v ∷ []
    → IsOrigin path (view v)
    → (rest : List Data) × AreOriginsOf path (place + 1) rest × (map view after ≡ first ++ rest)
one_origin path place first more before after v so_far told added here = (
  more ++ view v ∷ [],
  record {
    many = length_push more (view v) ∙ ap (λ n. n + 1) so_far.many;
    each = All-push (IsOrigin path) more (view v) so_far.each here;
  },
  ap (map view) added ∙ map-append view before (v ∷ []) ∙ ap (λ l. l ++ view v ∷ []) told
      ∙ append_assoc first more (view v ∷ []),
)
