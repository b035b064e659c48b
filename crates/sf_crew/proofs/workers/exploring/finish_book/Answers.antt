use Rattle.sf_crew.proofs.Common.{rules, IsExplorationOf}
use Rattle.sf_crew.proofs.workers.exploring.ExactExplorations.{exact_end}
use Rattle.sf_crew.proofs.workers.exploring.finish_book.Goals as goal

pub returns-clause-plain : goal.returns-clause-plain
returns-clause-plain c = let end : IsExplorationOf c.args.stack.now.value c.args._budget c.in-Ok.settled =
    search rules in exact_end _ _ _ end c.counts-counts.ensures.plain
