use Rattle.sf_parts.proofs.runs.RunLemmas.{runs_seen-push}
use Rattle.sf_parts.proofs.word.WordLemmas.{is_same_tree-self, same-ids}
use Rattle.sf_parts.proofs.Common.{nat_tests, arith, Some, ◌<◌, length, All-pop, Run}
use Rattle.sf_parts.proofs.runs.push_run.Goals as goal

pub returns-then-next-run-clause-runs : goal.returns-then-next-run-clause-runs
returns-then-next-run-clause-runs c =
    grind (arith, runs_seen-push c.args.store.now.trees c.pop.new.self.items, is_same_tree-self)

pub returns-clause-runs : goal.returns-clause-runs
returns-clause-runs c =
    let ts = c.args.store.now.trees in
    let popped = All-pop (λ (r : Run). r.behind < length ts) c.args.runs.now.items c.pop.new.self.items
    (Some c.in-Some.next) c.in-Some.ensures.items c.requires.kept in
    let same = same-ids ts c.in-Some.next.behind c.args.run.behind c.requires.lawful.canonical popped.1
    c.requires.within in
    grind (arith, nat_tests, runs_seen-push, c.push_new-2.ensures.runs, same)
