use Rattle.sf_profile.proofs.Common.{ℕ, List, Bor, ap, ◌∙◌, list_any, error_names, is_name, name_from}
use Rattle.sf_profile.proofs.errors.names_error.Goals as goal

pub returns : goal.returns
unfolding error_names
returns c =
    c.has_error.ensures
    ∙ ap (λ (rs : List (ℕ × Bor (List ℕ))). list_any (λ r. is_name c.args.text.now
    (name_from r.0 r.1.now c.args.number)) rs)
    c.as_slice.ensures
