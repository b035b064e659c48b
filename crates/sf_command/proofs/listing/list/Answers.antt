use Rattle.sf_command.proofs.Common.{◌∙◌, false, sym, true, on_ok_weaker}
use Rattle.sf_command.proofs.DiagramLemmas.{lists}
use Rattle.sf_command.proofs.listing.list.Goals as goal

pub returns-then-is_digest-clause-written : goal.returns-then-is_digest-clause-written
returns-then-is_digest-clause-written g c = on_ok_weaker c.list_stack.result
    (lists _ _ _ c.in_ok-stack.ensures.held _ _ _ _ _ (rw c.is_json-json.ensures at c.in_ok-stack.ensures.told) _ _
    true (sym c.if-is_digest.true ∙ c.is_digest.ensures))
    c.list_stack.ensures.written

pub returns-clause-written : goal.returns-clause-written
returns-clause-written g c = on_ok_weaker c.list_stack-2.result
    (lists _ _ _ c.in_ok-stack.ensures.held _ _ _ _ _ (rw c.is_json-json.ensures at c.in_ok-stack.ensures.told) _ _
    false (sym c.if-is_digest.false ∙ c.is_digest.ensures))
    c.list_stack-2.ensures.written
