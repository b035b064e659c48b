use Rattle.sf_compare.proofs.Common.{on_ok_weaker, added_four}
use Rattle.sf_compare.proofs.text.push_head.Goals as goal

pub returns : goal.returns
returns c =
    on_ok_weaker c.push_nodes.result (λ e. added_four _ _ _ _ _ _ _ _ _ c.in_ok-push_str.ensures.bytes
    (rw c.old_stack.ensures at c.in_ok-push_part.ensures) (rw c.new_stack.ensures at c.in_ok-push_part-2.ensures)
    (rw c.nodes.ensures at e)) c.push_nodes.ensures
