use Rattle.sf_command_line.proofs.Common.{◌≡◌, ap, codes, ◌∙◌, IfOk-weaker, app_of, new_app, app_of_fields}
use Rattle.sf_command_line.proofs.words.WordsLemmas.{with_help, with_one}
use Rattle.sf_command_line.proofs.words.compare.Goals as goal

pub returns : goal.returns
returns c =
    let bare : app_of c.about.result ≡ new_app (codes "compare") = ap app_of_fields c.about.ensures ∙ c.new.ensures.app in
    let one = with_one c.in_ok-arg.ensures bare c.files.ensures.own c.files.ensures.rule in
    let two = with_one c.in_ok-arg-2.ensures one c.files-2.ensures.own c.files-2.ensures.rule in
    let three = with_one c.in_ok-arg-3.ensures two c.nodes.ensures.own c.nodes.ensures.rule in
    let four = with_help c.switch.result c.in_ok-arg-4.ensures c.help.ensures three
    c.switch.ensures.own c.switch.ensures.rule in
    let five = with_help c.switch-2.result c.in_ok-arg-5.ensures c.help-2.ensures four
    c.switch-2.ensures.own c.switch-2.ensures.rule in
    let six = with_help c.option.result c.in_ok-arg-6.ensures c.help-3.ensures five
    c.option.ensures.own c.option.ensures.rule in
    let seven = with_one c.in_ok-arg-7.ensures six c.calls.ensures.own c.calls.ensures.rule in
    let eight = with_one c.in_ok-arg-8.ensures seven c.names.ensures.own c.names.ensures.rule in
    let nine = with_one c.in_ok-arg-9.ensures eight c.json.ensures.own c.json.ensures.rule in
    let ten = with_one c.in_ok-arg-10.ensures nine c.quiet.ensures.own c.quiet.ensures.rule in
    IfOk-weaker c.arg-11.result _ _ (λ r h. with_one h ten c.explain.ensures.own c.explain.ensures.rule)
    c.arg-11.ensures
