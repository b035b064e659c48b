use Rattle.sf_parts.proofs.Common.{◌<◌, List, length, sym, subst, tree_at, Run}
use Rattle.sf_parts.proofs.runs.RunLemmas.{runs_in-some}
use Rattle.sf_parts.proofs.parts.parts_of.Goals as goal

pub joined_parts-requires-clause-some : goal.joined_parts-requires-clause-some
joined_parts-requires-clause-some c =
    let t = tree_at c.args.store.now.trees c.args.id in
    let runs = rw c.in-Some.is at c.in_ok-found.ensures.runs in
    subst (λ (rs : List Run). 0 < length rs) (sym c.deref-2.ensures.value)
    (runs_in-some c.args.word t c.args.store.now.trees c.in-Some.runs.items runs.0)
