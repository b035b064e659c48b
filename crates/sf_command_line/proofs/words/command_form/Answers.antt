use Rattle.sf_command_line.proofs.Common.{refl, IfOk-weaker, command_line}
use Rattle.sf_command_line.proofs.words.WordsLemmas.{with_next}
use Rattle.sf_command_line.proofs.words.command_form.Goals as goal

pub returns : goal.returns
unfolding command_line
returns c =
    let one = with_next c.in_ok-subcommand.ensures c.in_ok-program.ensures c.in_ok-audit.ensures refl in
    let two = with_next c.in_ok-subcommand-2.ensures one c.in_ok-check.ensures refl in
    let three = with_next c.in_ok-subcommand-3.ensures two c.in_ok-eval.ensures refl in
    let four = with_next c.in_ok-subcommand-4.ensures three c.in_ok-compare.ensures refl in
    let five = with_next c.in_ok-subcommand-5.ensures four c.in_ok-list.ensures refl in
    let six = with_next c.in_ok-subcommand-6.ensures five c.in_ok-needed.ensures refl in
    IfOk-weaker c.subcommand-7.result _ _ (λ r h. with_next h six c.in_ok-profile.ensures refl) c.subcommand-7.ensures
