use Rattle.sf_dom.proofs.Common.{arith, covers-facts}
use Rattle.sf_dom.proofs.Sampled.{first-covers, first-sound, first-fails}
use Rattle.sf_dom.proofs.facts.Facts.new.Goals as goal

pub unreachable-requires : goal.unreachable-requires
unreachable-requires c =
    let none = rw (c.in_ok-nodes.ensures.known, c.if-branch.false) at c.in_ok-append.ensures.rule in
    first-fails c.in_ok-excluded.excluded c.args.pool.now c.len-count.ensures.lawful c.in_ok-excluded.ensures.1
    (none (λ i l. absurd (omega arith)))

pub returns-clause-rule : goal.returns-clause-rule
returns-clause-rule c =
    let taken = rw (c.in_ok-nodes.ensures.known, c.if-branch.true) at c.in_ok-append.ensures.rule in
    let listed = rw (c.in_ok-nodes.ensures.known, c.in_ok-nodes.ensures.variables, c.if-branch.true) at
    c.in_ok-append.ensures.variables in
    rw c.in_ok-new.ensures.ok (record {
      known = taken (λ i l. absurd (omega arith));
      variables = listed;
      words = c.in_ok-excluded.ensures.0;
      excluded = c.in_ok-excluded.ensures.1;
    })

pub returns-clause-covers : goal.returns-clause-covers
returns-clause-covers c = first-covers _ c.args.pool.now c.len-count.ensures.lawful (returns-clause-rule c)

pub returns-clause-sound : goal.returns-clause-sound
returns-clause-sound c = first-sound _ c.args.pool.now c.len-count.ensures.lawful (returns-clause-rule c)

pub invariant_of-result : goal.invariant_of-result
invariant_of-result c = covers-facts _ c.args.pool.now (returns-clause-covers c)
