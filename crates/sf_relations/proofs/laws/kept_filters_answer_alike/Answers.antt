use Rattle.sf_relations.proofs.findings.FindingLemmas.{kept-all-alike}
use Rattle.sf_relations.proofs.laws.kept_filters_answer_alike.Goals as goal

pub returns : goal.returns
returns c = kept-all-alike
