use Rattle.sf_compare.proofs.comparison.ComparisonLemmas.{one-comparison}
use Rattle.sf_compare.proofs.laws.one_comparison.Goals as goal

pub returns : goal.returns
returns c = one-comparison c.one_finding.ensures
