use Rattle.sf_needed.proofs.laws.OneLemmas.{one-result}
use Rattle.sf_needed.proofs.laws.one_result.Goals as goal

pub returns : goal.returns
returns c = one-result c.one_finding.ensures c.one_list_of_kept_filters.ensures
