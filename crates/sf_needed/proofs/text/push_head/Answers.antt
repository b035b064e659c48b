use Rattle.sf_needed.proofs.Common.{on_ok_weaker, added_three}
use Rattle.sf_needed.proofs.text.push_head.Goals as goal

pub returns : goal.returns
returns c =
    let size = rw (c.programs.ensures.same, c.stack.ensures) at c.in_ok-push_size.ensures in
    on_ok_weaker c.push_nodes.result (λ e. added_three _ _ _ _ _ _ _ c.in_ok-push_str.ensures.bytes size
    (rw c.nodes.ensures at e)) c.push_nodes.ensures
