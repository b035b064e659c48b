use Rattle.sf_evaluate.proofs.Common.{◌∙◌, ap, codes, refl, unwrap_or, found_of, rows_of, paths_found, X64, Strictest, ArePaths}
use Rattle.sf_evaluate.proofs.words.WordLemmas.{settings_said}
use Rattle.sf_evaluate.proofs.words.settings.settings_of.Goals as goal

pub returns-clause-words : goal.returns-clause-words
returns-clause-words c =
    let caps : ArePaths (codes "cap") (rows_of (found_of c.args.found.now)) c.unwrap_or-caps.result.now =
    rw c.unwrap_or-caps.ensures (paths_found (found_of c.args.found.now) (codes "cap") c.get_strs.result _
    c.get_strs.ensures refl) in
    settings_said _ _ c.text_of.result.now c.text_of-3.result.now c.text_of-2.result.now c.requires c.text_of.ensures
    (c.unwrap_or.ensures ∙ ap (λ o. unwrap_or o X64) c.machine_named.ensures) c.text_of-3.ensures
    (c.unwrap_or-2.ensures ∙ ap (λ o. unwrap_or o Strictest) c.reading_named.ensures) c.text_of-2.ensures
    c.version_of.ensures (c.in_ok-strings_of.ensures ∙ caps) c.wants_newer.ensures
    c.skips_unknown.ensures
