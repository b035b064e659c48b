use Rattle.sf_parts.proofs.Common.{[], false, refl}
use Rattle.sf_parts.proofs.rows.RowLemmas.{rows-some}
use Rattle.sf_parts.proofs.laws.each_row_has_an_input.Goals as goal

pub returns : goal.returns
returns c = λ apart hidden n word t o. rows-some apart hidden n word t [] (λ _. false) o tt refl
