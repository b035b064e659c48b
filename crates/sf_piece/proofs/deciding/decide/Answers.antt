use Rattle.sf_piece.proofs.Common.{true, false}
use Rattle.sf_piece.proofs.Children.{entry_foreseen, never_both}
use Rattle.sf_piece.proofs.Joined.{split_right}
use Rattle.sf_piece.proofs.deciding.decide.Goals as goal

pub returns-in_default-clause-right : goal.returns-in_default-clause-right
returns-in_default-clause-right c =
    let never = rw c.in_default.is at c.in_ok-on_false.ensures.facts in
    entry_foreseen c.args.asked.now c.args.insn c.args.cond true c.requires.query never

pub returns-in_default-3-clause-right : goal.returns-in_default-3-clause-right
returns-in_default-3-clause-right c =
    let never = rw c.in_default-3.is at c.in_ok-on_true.ensures.facts in
    entry_foreseen c.args.asked.now c.args.insn c.args.cond false c.requires.query never

pub returns-clause-right : goal.returns-clause-right
returns-clause-right c =
    let f = c.in_ok-false_run.ensures in
    let t = c.in_ok-true_run.ensures in
    let both = split_right c.args.asked.now c.args.insn c.args.cond _ _ f.rule t.rule f.lawful t.lawful in
    (both.0, both.1, f.lawful, t.lawful)

pub returns-in_default-2-clause-right : goal.returns-in_default-2-clause-right
returns-in_default-2-clause-right c =
    never_both c.args.asked.now c.args.cond (rw c.in_default.is at c.in_ok-on_false.ensures.facts)
    (rw c.in_default-2.is at c.in_ok-_on_true.ensures.facts)
