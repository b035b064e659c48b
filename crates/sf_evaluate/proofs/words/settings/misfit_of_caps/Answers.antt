use Rattle.sf_evaluate.proofs.Common.{◌∙◌, ap, codes, not, refl, list_all, found_of, rows_of, paths_found, is_capability, list_all-map, Bor, Text, sym, ArePaths}
use Rattle.sf_evaluate.proofs.words.WordLemmas.{none_fails}
use Rattle.sf_evaluate.proofs.words.asking.AskingLemmas.{read_some}
use Rattle.sf_evaluate.proofs.words.settings.misfit_of_caps.Goals as goal

pub returns : goal.returns
returns c =
    let texts = c.unwrap_or-caps.result.now in
    let caps : ArePaths (codes "cap") (rows_of (found_of c.args.found.now)) texts =
    rw c.unwrap_or-caps.ensures (paths_found (found_of c.args.found.now) (codes "cap") c.get_strs.result _
    c.get_strs.ensures refl) in
    ap not (c.map.ensures.variant ∙ read_some (λ (t : Bor (Bor Text)). t.now) c.unknown_capability.result _
    c.unknown_capability.ensures)
    ∙ none_fails (λ (t : Bor Text). is_capability t.now) texts
    ∙ sym (list_all-map is_capability (λ (t : Bor Text). t.now) texts) ∙ ap (list_all is_capability) caps
