use Rattle.sf_parts.proofs.runs.RunLemmas.{runs-by, runs-length, power}
use Rattle.sf_parts.proofs.Common.{nat_tests, common_steps, ◌-◌, arith, err_from_is_err_and, pow_pos}
use Rattle.sf_parts.proofs.runs.+push_runs.Goals as goal

pub returns-then-block-eq0-clause-runs : goal.returns-then-block-eq0-clause-runs
returns-then-block-eq0-clause-runs t c = rw runs-by (grind (arith, nat_tests))

pub returns-then-block-eq0-clause-spent : goal.returns-then-block-eq0-clause-spent
returns-then-block-eq0-clause-spent t c = grind (arith, common_steps, runs-length)

pub returns-in-None-clause-runs : goal.returns-in-None-clause-runs
returns-in-None-clause-runs t c = rw runs-by (grind (arith, nat_tests))

pub returns-in-None-clause-spent : goal.returns-in-None-clause-spent
returns-in-None-clause-spent t c = grind (arith, common_steps, runs-length)

pub push_runs-requires : goal.push_runs-requires
push_runs-requires t c = grind (arith, power c.args.block.bits (c.args.block.bits - 1))

pub returns-then-not-has_bit-clause-runs : goal.returns-then-not-has_bit-clause-runs
returns-then-not-has_bit-clause-runs t c = rw runs-by (grind (arith, nat_tests))

pub returns-then-not-has_bit-clause-spent : goal.returns-then-not-has_bit-clause-spent
returns-then-not-has_bit-clause-spent t c = rw runs-by (grind (arith, nat_tests))

pub overflow_add-middle : goal.overflow_add-middle
overflow_add-middle t c =
    omega (arith, power c.args.block.bits (c.args.block.bits - 1) (omega arith), pow_pos (c.args.block.bits - 1))

pub push_runs-requires-2 : goal.push_runs-requires-2
push_runs-requires-2 t c = grind (arith, power c.args.block.bits (c.args.block.bits - 1), c.in-Some.ensures.sides)

pub push_runs-requires-3 : goal.push_runs-requires-3
push_runs-requires-3 t c = grind (arith, power c.args.block.bits (c.args.block.bits - 1), c.in-Some.ensures.sides)

pub returns-in_err-push_runs-clause-spent : goal.returns-in_err-push_runs-clause-spent
returns-in_err-push_runs-clause-spent t c =
    let p = err_from_is_err_and c.from_residual.result c.from_residual.ensures.1 in
    rw (p.1, p.2, runs-by) (grind (arith, nat_tests, runs-length, c.in_err-push_runs.ensures.spent))

pub returns-clause-runs : goal.returns-clause-runs
returns-clause-runs t c = rw runs-by (grind (arith, nat_tests))

pub returns-clause-spent : goal.returns-clause-spent
returns-clause-spent t c = rw runs-by (grind (arith, nat_tests))
