use Rattle.sf_dom.proofs.Common.{◌<◌, length, set, arith, refl, Some, None, known_at, AreClosed, met}
use Rattle.sf_dom.proofs.Lawful.{narrowed-left}
use Rattle.sf_dom.proofs.Passes.{met-left, reduced-stays}
use Rattle.sf_dom.proofs.Steps.{still-fixed}
use Rattle.sf_dom.proofs.changes.restrict.Goals as goal

pub set-requires-clause-decided : goal.set-requires-clause-decided
set-requires-clause-decided c =
    let words = c.len-count.ensures.lawful.words in
    let ex = c.args.excluded.now in let w = c.args.word in
    let there : w < length c.args.pool.now = omega (arith, c.requires.word) in
    let own = known_at c.args.nodes.now.known w in
    rw c.in_ok-next.ensures (λ d. reduced-stays ex w own (met own c.args.more) c.in-Some.left
    (c.requires.rest w there).closed.known (met-left own c.args.more) c.in-Some.ensures d)

pub propagate-requires : goal.propagate-requires
propagate-requires c =
    let ks = c.args.nodes.now.known in let ex = c.args.excluded.now in let ns = c.args.pool.now in
    let p = c.len-count.ensures.lawful in let words = p.words in let w = c.args.word in
    let closed : AreClosed ks ns
    = record { count = c.requires.count; each = λ i l. (c.requires.rest i l).closed.known } in
    let there : w < length ns = omega (arith, c.requires.word) in
    let own = known_at ks w in let left = c.in-Some.left in
    let n = narrowed-left ks ex ns w (met own c.args.more) left closed there (met-left own c.args.more)
    c.in-Some.ensures in
    record {
      closed = rw (c.set.ensures.known, c.in_ok-next.ensures) n.closed;
      words = rw (c.set.ensures.known, c.in_ok-next.ensures) (n.kept (λ i l. (c.requires.rest i (omega arith)).closed));
      fixed = rw (c.set.ensures.known, c.set.ensures.variables, c.in_ok-next.ensures)
          (still-fixed c.args.nodes.now.variables ks (set ks w left) ex ns p closed n c.requires.fixed);
    }

pub returns-in_default-clause-rule : goal.returns-in_default-clause-rule
returns-in_default-clause-rule c = (None, (None, c.in_default.ensures, refl), refl)

pub returns-then-not-propagate-clause-rule : goal.returns-then-not-propagate-clause-rule
returns-then-not-propagate-clause-rule c =
    let n = c.args.nodes.now in (
      Some (set n.known c.args.word c.in-Some.left),
      (Some c.in-Some.left, c.in-Some.ensures, refl),
      rw (c.set.ensures.known, c.in_ok-next.ensures, c.if-not-propagate.true) at c.propagate.ensures.pass,
    )

pub returns-clause-rule : goal.returns-clause-rule
returns-clause-rule c =
    let n = c.args.nodes.now in (
      Some (set n.known c.args.word c.in-Some.left),
      (Some c.in-Some.left, c.in-Some.ensures, refl),
      rw (c.set.ensures.known, c.in_ok-next.ensures, c.if-not-propagate.false) at c.propagate.ensures.pass,
    )
