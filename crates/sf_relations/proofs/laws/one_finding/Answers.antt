use Rattle.sf_relations.proofs.findings.FindingLemmas.{one-finding}
use Rattle.sf_relations.proofs.laws.one_finding.Goals as goal

pub returns : goal.returns
returns c = one-finding
