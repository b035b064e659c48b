use Rattle.sf_relations.proofs.Common.{common_steps, arith, bits_with, number_by-small}
use Rattle.sf_relations.proofs.OrderLemmas.{half-small, number-none, number-step}
use Rattle.sf_relations.proofs.inputs.number_of.Goals as goal
use Rattle.sf_relations.proofs.inputs.number_of.Goals.{then-is_true, else-is_true}

pub loop-bit-init : goal.loop-bit-init
loop-bit-init c = number-none c.args.first (bits_with c.args.variables.now)

pub overflow_add-number : goal.overflow_add-number
overflow_add-number c = grind (arith, common_steps, half-small, number_by-small)

pub loop-bit-preserved : goal.loop-bit-preserved
loop-bit-preserved c = grind (arith, common_steps, number-step, then-is_true, else-is_true)
