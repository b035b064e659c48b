use Rattle.sf_dom.proofs.laws.Forced.{forced-learns, forced-cant}
use Rattle.sf_dom.proofs.laws.ForcedTests.{forced-found, forced-added}
use Rattle.sf_dom.proofs.laws.forced_results_are_learnt.Goals as goal

pub returns : goal.returns
returns c = record { this = forced-learns; other = forced-cant; found = forced-found; added = forced-added }
