use Rattle.sf_crew.proofs.Common.{◌≡◌, ◌≤◌, ap, arith, Counts}
use Rattle.sf_crew.proofs.Free.{leased_or_end}
use Rattle.sf_crew.proofs.workers.exploring.next_lease.Goals as goal

pub returns-clause-ok : goal.returns-clause-ok
returns-clause-ok c =
    let commits : c.counts.result.commits ≡ c.args.book.now.commits =
    ap (λ (n : Counts). n.commits) c.counts.ensures.counts in
    let within : c.args.book.now.commits ≤ c.args.book.now.budget = c.counts.ensures.lawful.within in
    leased_or_end _ _ _ c.requires (omega arith) c.in_ok-lease.ensures.ok
