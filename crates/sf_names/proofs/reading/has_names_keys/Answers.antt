use Rattle.sf_names.proofs.Common.{◌∙◌, sym}
use Rattle.sf_names.proofs.reading.SetLemmas.{keys_view}
use Rattle.sf_names.proofs.reading.has_names_keys.Goals as goal

pub returns : goal.returns
returns c = c.has_only_names_keys.ensures ∙ sym (keys_view c.args.table.now.entries)
