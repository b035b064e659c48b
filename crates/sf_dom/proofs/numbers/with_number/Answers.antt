use Rattle.sf_dom.proofs.AscendingLemmas.{inserted-rising, inserted-numbers}
use Rattle.sf_dom.proofs.numbers.with_number.Goals as goal

pub returns-in_ok-insert_number-in-Err-clause-rising : goal.returns-in_ok-insert_number-in-Err-clause-rising
returns-in_ok-insert_number-in-Err-clause-rising c =
    rw c.in_ok-insert_number-in-Err.ensures
    (inserted-rising c.args.list.now c.args.number c.in-Err.at c.requires c.in-Err.ensures.position)

pub returns-in_ok-insert_number-in-Err-clause-numbers : goal.returns-in_ok-insert_number-in-Err-clause-numbers
returns-in_ok-insert_number-in-Err-clause-numbers c =
    rw c.in_ok-insert_number-in-Err.ensures
    (inserted-numbers c.args.list.now c.args.number c.in-Err.at)
