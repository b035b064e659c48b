use Rattle.sf_calls.proofs.Common.{rules, tests}
use Rattle.sf_calls.proofs.numbers.NumberLemmas.{number_read}
use Rattle.sf_calls.proofs.numbers.number_from.Goals as goal

pub returns : goal.returns
returns c = number_read c.args.radix c.args.digits.now c.from_str_radix.result c.map_err.result _ c.requires.most
    c.requires.digits (λ e m k. search (rules, tests)) c.from_str_radix.ensures.value c.map_err.ensures.cases
