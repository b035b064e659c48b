-- One more item of a profile.
use Rattle.sf_profile.proofs.Common.{◌≡◌, ℕ, ◌+◌, ◌-◌, ◌<◌, List, [], ◌∷◌, ◌++◌, length, get_or, drop, map, fold, refl, ap, ◌∙◌, ◌⊎◌, inl, inr, true, Option, Some, None, codes, flat_map, drop_more, Data, view, Value, Fault, CallSet, Settings, ProfileRuleData, size_of_rule, and_then, item_sets, read_rule, read_rules, read_sets, with_named, has_calls, at, listed, text_in}
use Rattle.sf_profile.specs.declared.fault.Fault.TheVariants as faults
use Rattle.sf_profile.proofs.plan.PlanLemmas.{fold_both}

pub next_rule : (s : Settings) (vs : List Value) (i n left : ℕ) (rules : List ProfileRuleData) (v : Value)
    → i < length vs
    → read_rules s n left rules (map view (drop i vs))
    ≡ and_then (read_rule s n left (view (get_or vs i v)))
    (λ rule. read_rules s (n + 1) (left - size_of_rule (view (get_or vs i v))) (rules ++ rule ∷ [])
    (map view (drop (i + 1) vs)))
next_rule s vs i n left rules v h = rw (drop_more vs i v h) refl

pub next_name : (s : Settings) (sets : Option (List CallSet)) (vs : List Value) (i : ℕ) (v : Value) → i < length vs
    → fold (with_named s) sets (map text_in (map view (drop i vs)))
    ≡ fold (with_named s) (with_named s sets (text_in (view (get_or vs i v))))
    (map text_in (map view (drop (i + 1) vs)))
next_name s sets vs i v h = rw (drop_more vs i v h) refl

pub next_item : (s : Settings) (sets : Option (List CallSet)) (vs : List Value) (i : ℕ) (v : Value) → i < length vs
    → fold (with_named s) sets (flat_map (item_sets s) (map view (drop i vs)))
    ≡ fold (with_named s) (fold (with_named s) sets (item_sets s (view (get_or vs i v))))
    (flat_map (item_sets s) (map view (drop (i + 1) vs)))
next_item s sets vs i v h =
    rw (drop_more vs i v h)
    (fold_both (with_named s) sets (item_sets s (view (get_or vs i v)))
    (flat_map (item_sets s) (map view (drop (i + 1) vs))))

pub none_stays : (s : Settings) (names : List (List ℕ)) → fold (with_named s) None names ≡ None
none_stays s [] = refl
none_stays s (name ∷ names) = none_stays s names

-- why sets are refused: memory was refused, or none are given
abbrev pub AreRefused : Fault → Option (List CallSet) → Type 0
AreRefused fault sets = (fault ≡ faults.Memory) ⊎ ((fault ≡ faults.Set) × (sets ≡ None))

-- names are refused where the first ones are
pub refused_first : (s : Settings) (sets : Option (List CallSet)) (first later : List (List ℕ)) (fault : Fault)
    (whole : Option (List CallSet)) → whole ≡ fold (with_named s) sets (first ++ later)
    → AreRefused fault (fold (with_named s) sets first) → AreRefused fault whole
refused_first s sets first later fault whole is (inl memory) = inl memory
refused_first s sets first later fault whole is (inr unknown) = inr (
  unknown.0,
  is ∙ fold_both (with_named s) sets first later
      ∙ ap (λ (o : Option (List CallSet)). fold (with_named s) o later) unknown.1 ∙ none_stays s later,
)

-- a set at `architectures` isn't given
pub refused_sets : (s : Settings) (d : Data) (fault : Fault) (sets : List CallSet) (names : List (List ℕ))
    → AreRefused fault (fold (with_named s) (Some sets) names) → sets ≡ s.machine ∷ []
    → names ≡ map text_in (listed (at (codes "architectures") d)) → has_calls s s.machine ≡ true
    → AreRefused fault (read_sets s d)
refused_sets s d fault sets names refused own same has =
    refused_first s (Some (s.machine ∷ [])) (map text_in (listed (at (codes "architectures") d)))
    (flat_map (item_sets s) (listed (at (codes "archMap") d))) fault (read_sets s d) (rw has refl)
    (rw (own, same) at refused)
