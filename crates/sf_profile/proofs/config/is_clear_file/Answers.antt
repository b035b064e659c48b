use Rattle.sf_profile.proofs.Common.{ℕ, List, Bor, map, codes, ap, ◌∙◌, view, is_clear, is_object_with}
use Rattle.sf_profile.proofs.config.is_clear_file.Goals as goal

pub returns : goal.returns
returns c =
    c.is_clear_object.ensures
    ∙ ap (λ (ks : List (Bor (List ℕ))). is_object_with (is_clear (codes "linux") (map (λ k. k.now) ks))
    (view c.args.value.now)) c.as_slice.ensures
