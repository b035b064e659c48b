use Rattle.sf_command_line.proofs.Common.{codes, arith, ParsesUnsigned, ExplainsUnsignedError, HasUnsignedDigitsIfOk, found_of}
use Rattle.sf_command_line.proofs.CommandLineLemmas.{number_found}
use Rattle.sf_command_line.proofs.options.budget_of.Goals as goal

pub returns : goal.returns
returns c = rw c.unwrap_or.ensures (number_found (λ bs r. ParsesUnsigned 32 10 bs r × ExplainsUnsignedError 10 bs r
    × HasUnsignedDigitsIfOk bs r)
    32 1000000 100000 (found_of c.args.found.now) (codes "budget") _
    (omega arith) c.get_one.ensures.none c.get_one.ensures.value (λ bs r g. g.0))
