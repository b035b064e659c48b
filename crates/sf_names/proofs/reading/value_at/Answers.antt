use Rattle.sf_names.proofs.Common.{table_get}
use Rattle.sf_names.proofs.reading.value_at.Goals as goal

pub returns : goal.returns
returns c = table_get c.get.result c.args.key.now c.args.table.now.entries c.get.ensures.value
