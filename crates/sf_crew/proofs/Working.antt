-- What a worker's turn does to the handles of benches.
use Rattle.sf_crew.proofs.Common.{common_steps, ◌≡◌, ◌⊎◌, ℕ, ◌<◌, List, arith, get_or, set, slice_get, length, Some, ap, ◌∙◌, arc_value, some_pair_parts, slice_get-map, slice_get-get_or, map-set, MatchSteal, Steal, StepData, Split, Settled, Empty, children_of, Lease, HandleView, Thief, GetsFirst, AllGot, thief_view, thief_views, GetsOne, PutsOrNot, PutsChildren, option_map, map-set_same}
use Rattle.crossbeam_deque.specs.declared.steal.Steal.TheVariants as steal

-- both pieces of a split were put
pub both_put : (s : StepData) (x y : Lease) (v u w : HandleView Lease)
    → Some (arc_value x.piece, arc_value y.piece) ≡ children_of s
    → PutsOrNot v x u → PutsOrNot u y w → PutsChildren v s w
both_put (Split f t) x y v u w e a b = grind (arith, common_steps, some_pair_parts)
both_put (Settled z) x y v u w e a b = absurd cc
both_put Empty x y v u w e a b = absurd cc

-- a thief that got nothing knows what it knew
pub got_nothing : (v w : HandleView Lease) (r : Steal Lease) → (r ≡ steal.Empty) ⊎ (r ≡ steal.Retry)
    → MatchSteal r ((w ≡ v) × AllGot v) (w ≡ v) (λ x. GetsFirst v x w) → w ≡ v
got_nothing v w steal.Empty e h = h.0
got_nothing v w steal.Retry e h = h
got_nothing v w (steal.Success x) e h = grind (arith, common_steps)

pub none_stolen : (ts : List (Thief Lease)) (i : ℕ) (t d : Thief Lease) → thief_view t ≡ thief_view (get_or ts i d)
    → thief_views (set ts i t) ≡ thief_views ts
none_stolen ts i t d same = map-set_same thief_view ts i t d same

slice_get_map : (ts : List (Thief Lease)) (i : ℕ) (d : Thief Lease) → i < length ts
    → slice_get (thief_views ts) i ≡ Some (thief_view (get_or ts i d))
slice_get_map ts i d lt = slice_get-map thief_view ts i ∙ ap (option_map thief_view) (slice_get-get_or ts i d lt)

-- one thief got a lease, and the others did nothing
pub one_stolen : (ts : List (Thief Lease)) (i : ℕ) (t d : Thief Lease) (x : Lease) → i < length ts
    → GetsFirst (thief_view (get_or ts i d)) x (thief_view t) → GetsOne (thief_views ts) x (thief_views (set ts i t))
one_stolen ts i t d x lt got = grind (arith, common_steps, slice_get_map, map-set)
