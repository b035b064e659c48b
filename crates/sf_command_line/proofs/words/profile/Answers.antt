use Rattle.sf_command_line.proofs.Common.{◌≡◌, ap, codes, ◌∙◌, IfOk-weaker, app_of, new_app, app_of_fields}
use Rattle.sf_command_line.proofs.words.WordsLemmas.{with_help, with_one}
use Rattle.sf_command_line.proofs.words.profile.Goals as goal

pub returns : goal.returns
returns c =
    let bare : app_of c.about.result ≡ new_app (codes "profile") = ap app_of_fields c.about.ensures ∙ c.new.ensures.app in
    let one = with_one c.in_ok-arg.ensures bare c.machine.ensures.own c.machine.ensures.rule in
    let two = with_one c.in_ok-arg-2.ensures one c.names.ensures.own c.names.ensures.rule in
    let three = with_one c.in_ok-arg-3.ensures two c.cap.ensures.own c.cap.ensures.rule in
    let four = with_help c.option.result c.in_ok-arg-4.ensures c.help.ensures three
    c.option.ensures.own c.option.ensures.rule in
    let five = with_one c.in_ok-arg-5.ensures four c.conflicts.ensures.own c.conflicts.ensures.rule in
    let six = with_help c.switch.result c.in_ok-arg-6.ensures c.help-2.ensures five
    c.switch.ensures.own c.switch.ensures.rule in
    let seven = with_help c.switch-2.result c.in_ok-arg-7.ensures c.help-3.ensures six
    c.switch-2.ensures.own c.switch-2.ensures.rule in
    let eight = with_help c.switch-3.result c.in_ok-arg-8.ensures c.help-4.ensures seven
    c.switch-3.ensures.own c.switch-3.ensures.rule in
    let nine = with_one c.in_ok-arg-9.ensures eight c.quiet.ensures.own c.quiet.ensures.rule in
    let ten = with_one c.in_ok-arg-10.ensures nine c.explain.ensures.own c.explain.ensures.rule in
    IfOk-weaker c.arg-11.result _ _ (λ r h. with_one h ten c.profile_file.ensures.own c.profile_file.ensures.rule)
    c.arg-11.ensures
