use Rattle.sf_crew.proofs.Common.{arith, ap, ◌∙◌, arc_value}
use Rattle.sf_crew.proofs.Working.{both_put}
use Rattle.sf_crew.proofs.workers.Worker.work.Goals as goal

pub returns-clause-ok : goal.returns-clause-ok
returns-clause-ok g c =
    let made = c.in-Ok.made in let h = c.in-Ok.ensures.ok in
    let handed = rw c.in-Some.is at c.in_ok-f.ensures.ok in
    record {
      work = made.work;
      piece = h.piece ∙ ap (λ p. arc_value p) c.piece.ensures;
      right = h.right;
      children = search (arith, both_put);
    }
