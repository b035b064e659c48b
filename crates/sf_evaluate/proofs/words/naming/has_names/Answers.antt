use Rattle.sf_evaluate.proofs.Common.{◌∙◌, ap, codes, not, refl, found_of, rows_of, paths_found, ArePaths}
use Rattle.sf_evaluate.proofs.words.asking.AskingLemmas.{some_read}
use Rattle.sf_evaluate.proofs.words.naming.has_names.Goals as goal

pub returns : goal.returns
returns c =
    let names : ArePaths (codes "names") (rows_of (found_of c.args.found.now)) c.unwrap_or.result.now =
    rw c.unwrap_or.ensures (paths_found (found_of c.args.found.now) (codes "names") c.get_strs.result _
    c.get_strs.ensures refl) in
    ap not c.is_empty.ensures ∙ some_read c.unwrap_or.result.now _ names
