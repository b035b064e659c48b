use Rattle.sf_names.proofs.Common.{◌∙◌, sym}
use Rattle.sf_names.proofs.reading.SetLemmas.{count_view}
use Rattle.sf_names.proofs.reading.key_count.Goals as goal

pub returns : goal.returns
returns c = c.len.ensures.len ∙ sym (count_view c.args.table.now.entries)
