use Rattle.sf_evaluate.proofs.Common.{◌≡◌, ◌∙◌, Some, ap, codes, not, refl, sym, list_any, option_map, bytes_eq, first_of, found_of, rows_of, paths_of, paths_found, is_other_policy, ArePaths}
use Rattle.sf_evaluate.proofs.words.auditing.misfit_of_control.Goals as goal

pub returns-in-Some : goal.returns-in-Some
returns-in-Some c =
    let rows = rows_of (found_of c.args.found.now) in
    let policies : ArePaths (codes "policy") rows c.unwrap_or-policies.result.now =
    rw c.unwrap_or-policies.ensures (paths_found (found_of c.args.found.now) (codes "policy") c.get_strs.result _
    c.get_strs.ensures refl) in
    let given : Some c.in-Some.path.now ≡ first_of (codes "control") rows =
    ap (option_map (λ t. t.now)) (sym c.in-Some.is) ∙ c.given_text.ensures in
    ap not (c.then.ensures.variant ∙ c.is_among.ensures ∙ ap (list_any (bytes_eq c.in-Some.path.now)) policies)
    ∙ ap (λ o. is_other_policy o (paths_of (codes "policy") rows)) given
