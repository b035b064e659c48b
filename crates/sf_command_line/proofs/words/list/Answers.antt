use Rattle.sf_command_line.proofs.Common.{◌≡◌, ap, codes, ◌∙◌, IfOk-weaker, app_of, new_app, app_of_fields}
use Rattle.sf_command_line.proofs.words.WordsLemmas.{with_help, with_one}
use Rattle.sf_command_line.proofs.words.list.Goals as goal

pub returns : goal.returns
returns c =
    let bare : app_of c.about.result ≡ new_app (codes "list") = ap app_of_fields c.about.ensures ∙ c.new.ensures.app in
    let one = with_one c.in_ok-arg.ensures bare c.nodes.ensures.own c.nodes.ensures.rule in
    let two = with_one c.in_ok-arg-2.ensures one c.names.ensures.own c.names.ensures.rule in
    let three = with_one c.in_ok-arg-3.ensures two c.calls.ensures.own c.calls.ensures.rule in
    let four = with_help c.switch.result c.in_ok-arg-4.ensures c.help.ensures three
    c.switch.ensures.own c.switch.ensures.rule in
    let five = with_one c.in_ok-arg-5.ensures four c.json.ensures.own c.json.ensures.rule in
    let six = with_one c.in_ok-arg-6.ensures five c.quiet.ensures.own c.quiet.ensures.rule in
    let seven = with_one c.in_ok-arg-7.ensures six c.explain.ensures.own c.explain.ensures.rule in
    IfOk-weaker c.arg-8.result _ _ (λ r h. with_one h seven c.filters.ensures.own c.filters.ensures.rule)
    c.arg-8.ensures
