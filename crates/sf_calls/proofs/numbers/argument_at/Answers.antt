use Rattle.sf_calls.proofs.Common.{and_parts, comma_parts}
use Rattle.sf_calls.proofs.numbers.NumberLemmas.{part_read}
use Rattle.sf_calls.proofs.numbers.argument_at.Goals as goal

pub returns-in-Some : goal.returns-in-Some
returns-in-Some c are = part_read (comma_parts c.args.text.now) c.args.place c.part_at.result c.in-Some.part _
    (and_parts _ _ are).1 c.part_at.ensures c.in-Some.is c.read_number.ensures
