use Rattle.sf_dom.proofs.Common.{arith, refl, set, length-set, Some, None, known_at, met, assumed_of, with_pair}
use Rattle.sf_dom.proofs.BackLaws.{back-lawful}
use Rattle.sf_dom.proofs.ConditionSteps.{pair-narrowed, pair-then, both-back, condition-steps}
use Rattle.sf_dom.proofs.Lawful.{narrowed-left, narrowed-trans}
use Rattle.sf_dom.proofs.Passes.{met-left, reduced-stays}
use Rattle.sf_dom.proofs.Steps.{still-fixed}
use Rattle.sf_dom.proofs.assuming.assume_cond.Goals as goal

pub set-requires-clause-decided : goal.set-requires-clause-decided
set-requires-clause-decided c = λ d.
    let ks = c.args.nodes.now.known in let ex = c.args.excluded.now in let cond = c.args.cond.now in
    let v = known_at ks cond.node.0 in let told = (assumed_of ks cond).node in
    reduced-stays ex cond.node.0 v (met v told) c.args.alone.node
    (c.requires.closed.each cond.node.0 c.requires.below.0) (met-left v told) c.requires.left.node d

pub set-requires-2-clause-within : goal.set-requires-2-clause-within
set-requires-2-clause-within c =
    let count = c.requires.closed.count in
    rw c.set.ensures.known (omega (
      arith,
      c.requires.below.1,
      length-set c.args.nodes.now.known c.args.cond.now.node.0 c.args.alone.node,
    ))

pub set-requires-2-clause-decided : goal.set-requires-2-clause-decided
set-requires-2-clause-decided c = λ d.
    let ks = c.args.nodes.now.known in let ex = c.args.excluded.now in let cond = c.args.cond.now in
    let below = c.requires.below in let left = c.requires.left in
    let v = known_at ks cond.node.0 in let told = assumed_of ks cond in
    let first = narrowed-left ks ex c.args.pool.now cond.node.0 (met v told.node) c.args.alone.node c.requires.closed
    below.0 (met-left v told.node) left.node in
    let w = known_at (set ks cond.node.0 c.args.alone.node) cond.other.0 in
    rw c.set.ensures.known (reduced-stays ex cond.other.0 w (met w told.other) c.args.alone.other
    (first.closed.each cond.other.0 below.1) (met-left w told.other) left.other (rw c.set.ensures.known at d))

pub propagate_back-requires-clause-closed : goal.propagate_back-requires-clause-closed
propagate_back-requires-clause-closed c =
    let pair = pair-narrowed c.args.nodes.now.known c.args.excluded.now c.args.pool.now c.args.cond.now
    c.requires.closed c.requires.below c.args.alone c.requires.left in
    rw (c.set-2.ensures.known, c.set.ensures.known) pair.closed

pub propagate_back-requires-2-clause-closed : goal.propagate_back-requires-2-clause-closed
propagate_back-requires-2-clause-closed c =
    let ks = c.args.nodes.now.known in let ex = c.args.excluded.now in let ns = c.args.pool.now in
    let cond = c.args.cond.now in let below = c.requires.below in
    let pair = pair-narrowed ks ex ns cond c.requires.closed below c.args.alone c.requires.left in
    let one = rw (c.set-2.ensures.known, c.set.ensures.known, c.if-not-propagate_back.false) at
    c.propagate_back.ensures.back in
    ((back-lawful (with_pair ks cond c.args.alone) ex ns cond.node.0 c.len-count.ensures.lawful pair.closed
    below.0).narrowed (Some c.propagate_back.new.nodes.known) one).closed

pub propagate-requires : goal.propagate-requires
propagate-requires c =
    let ks = c.args.nodes.now.known in let ex = c.args.excluded.now in let ns = c.args.pool.now in
    let cond = c.args.cond.now in let p = c.len-count.ensures.lawful in let h = c.requires.closed in
    let below = c.requires.below in
    let pair = pair-narrowed ks ex ns cond h below c.args.alone c.requires.left in
    let mid = with_pair ks cond c.args.alone in
    let one = rw (c.set-2.ensures.known, c.set.ensures.known, c.if-not-propagate_back.false) at
    c.propagate_back.ensures.back in
    let two = rw c.if-not-propagate_back-2.false at c.propagate_back-2.ensures.back in
    let back = both-back mid c.propagate_back.new.nodes.known c.propagate_back-2.new.nodes.known ex ns
    cond p pair.closed below one two in
    record {
      closed = back.closed;
      words = back.kept c.requires.words;
      fixed = rw (
        c.propagate_back-2.ensures.variables,
        c.propagate_back.ensures.variables,
        c.set-2.ensures.variables,
        c.set.ensures.variables,
      ) (still-fixed c.args.nodes.now.variables ks c.propagate_back-2.new.nodes.known ex ns p h
          (narrowed-trans ks mid c.propagate_back-2.new.nodes.known ex ns h pair back) c.requires.fixed);
    }

pub returns-then-not-propagate_back-clause-rule : goal.returns-then-not-propagate_back-clause-rule
returns-then-not-propagate_back-clause-rule c =
    let none = rw (c.set-2.ensures.known, c.set.ensures.known, c.if-not-propagate_back.true) at
    c.propagate_back.ensures.back in
    pair-then c.args.nodes.now.known c.args.excluded.now c.args.pool.now c.args.cond.now c.args.alone c.requires.left
    None (None, none, refl)

pub returns-then-not-propagate_back-2-clause-rule : goal.returns-then-not-propagate_back-2-clause-rule
returns-then-not-propagate_back-2-clause-rule c =
    let one = rw (c.set-2.ensures.known, c.set.ensures.known, c.if-not-propagate_back.false) at
    c.propagate_back.ensures.back in
    let none = rw c.if-not-propagate_back-2.true at c.propagate_back-2.ensures.back in
    pair-then c.args.nodes.now.known c.args.excluded.now c.args.pool.now c.args.cond.now c.args.alone c.requires.left
    None (Some c.propagate_back.new.nodes.known, one, (None, none, refl))

pub returns-clause-rule : goal.returns-clause-rule
returns-clause-rule c =
    let one = rw (c.set-2.ensures.known, c.set.ensures.known, c.if-not-propagate_back.false) at
    c.propagate_back.ensures.back in
    let two = rw c.if-not-propagate_back-2.false at c.propagate_back-2.ensures.back in
    condition-steps c.propagate.result c.args.nodes.now.known c.propagate_back.new.nodes.known
    c.propagate_back-2.new.nodes.known c.propagate.new.nodes.known c.args.excluded.now c.args.pool.now
    c.args.cond.now c.args.alone c.requires.left one two c.propagate.ensures.pass
