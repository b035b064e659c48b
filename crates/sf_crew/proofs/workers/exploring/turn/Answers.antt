use Rattle.sf_crew.proofs.Common.{common_steps, arith, err_from_is_err_and}
use Rattle.sf_crew.proofs.Free.{may_commit, only_memory, other_turn, split_turn}
use Rattle.sf_crew.proofs.workers.exploring.turn.Goals.{in-Some, in_default}
use Rattle.sf_crew.proofs.workers.exploring.turn.Goals as goal

pub commit_of_stack-requires : goal.commit_of_stack-requires
commit_of_stack-requires g c = (may_commit c.args.book.now c.args.lease c.in_ok-work.work
    c.counts-counts.ensures.lawful c.requires c.in_ok-work.ensures.piece).same_stack

-- the commit is refused nothing but memory
pub returns-in_err-f-clause-err : goal.returns-in_err-f-clause-err
returns-in_err-f-clause-err g c = grind (arith, common_steps, err_from_is_err_and, may_commit, only_memory)

pub returns-clause-ok : goal.returns-clause-ok
returns-clause-ok g c = grind (arith, common_steps, other_turn, split_turn, in-Some, in_default)
