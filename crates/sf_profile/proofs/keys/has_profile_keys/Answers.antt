use Rattle.sf_profile.proofs.Common.{ℕ, List, Bor, map, ap, ◌∙◌, view, is_object_of}
use Rattle.sf_profile.proofs.keys.has_profile_keys.Goals as goal

pub returns : goal.returns
returns c =
    c.has_only.ensures
    ∙ ap (λ (ks : List (Bor (List ℕ))). is_object_of (map (λ k. k.now) ks) (view c.args.value.now)) c.as_slice.ensures
