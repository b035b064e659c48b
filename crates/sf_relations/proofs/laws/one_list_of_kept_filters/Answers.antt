use Rattle.sf_relations.proofs.Common.{length}
use Rattle.sf_relations.proofs.findings.FindingLemmas.{one-kept}
use Rattle.sf_relations.proofs.laws.one_list_of_kept_filters.Goals as goal

pub returns : goal.returns
returns c = λ programs a b h k. one-kept programs (length programs) a b h k
