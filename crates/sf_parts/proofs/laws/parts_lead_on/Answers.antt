use Rattle.sf_parts.proofs.word.WordLemmas.{value-behind}
use Rattle.sf_parts.proofs.WayLemmas.{parts_in-right}
use Rattle.sf_parts.proofs.laws.parts_lead_on.Goals as goal

pub returns : goal.returns
returns c = record {
  some = λ word apart t o. (parts_in-right word apart t o).some;
  leads = λ word apart t n o. (parts_in-right word apart t o).lead n;
  value = value-behind;
}
