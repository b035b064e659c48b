use Rattle.sf_command_line.proofs.Common.{◌≡◌, ap, codes, ◌∙◌, IfOk-weaker, app_of, new_app, app_of_fields}
use Rattle.sf_command_line.proofs.words.WordsLemmas.{with_help, with_one}
use Rattle.sf_command_line.proofs.words.audit.Goals as goal

pub returns : goal.returns
returns c =
    let bare : app_of c.about.result ≡ new_app (codes "audit") = ap app_of_fields c.about.ensures ∙ c.new.ensures.app in
    let one = with_one c.in_ok-arg.ensures bare c.policy.ensures.own c.policy.ensures.rule in
    let two = with_help c.option.result c.in_ok-arg-2.ensures c.help.ensures one
    c.option.ensures.own c.option.ensures.rule in
    let three = with_help c.option-2.result c.in_ok-arg-3.ensures c.help-2.ensures two
    c.option-2.ensures.own c.option-2.ensures.rule in
    let four = with_one c.in_ok-arg-4.ensures three c.budget.ensures.own c.budget.ensures.rule in
    let five = with_one c.in_ok-arg-5.ensures four c.workers.ensures.own c.workers.ensures.rule in
    let six = with_help c.switch.result c.in_ok-arg-6.ensures c.help-3.ensures five
    c.switch.ensures.own c.switch.ensures.rule in
    let seven = with_help c.switch-2.result c.in_ok-arg-7.ensures c.help-4.ensures six
    c.switch-2.ensures.own c.switch-2.ensures.rule in
    let eight = with_help c.switch-3.result c.in_ok-arg-8.ensures c.help-5.ensures seven
    c.switch-3.ensures.own c.switch-3.ensures.rule in
    let nine = with_help c.switch-4.result c.in_ok-arg-9.ensures c.help-6.ensures eight
    c.switch-4.ensures.own c.switch-4.ensures.rule in
    let ten = with_help c.option-3.result c.in_ok-arg-10.ensures c.help-7.ensures nine
    c.option-3.ensures.own c.option-3.ensures.rule in
    let eleven = with_one c.in_ok-arg-11.ensures ten c.names.ensures.own c.names.ensures.rule in
    let twelve = with_one c.in_ok-arg-12.ensures eleven c.json.ensures.own c.json.ensures.rule in
    let thirteen = with_help c.switch-5.result c.in_ok-arg-13.ensures c.help-8.ensures twelve
    c.switch-5.ensures.own c.switch-5.ensures.rule in
    let fourteen = with_one c.in_ok-arg-14.ensures thirteen c.quiet.ensures.own c.quiet.ensures.rule in
    let fifteen = with_one c.in_ok-arg-15.ensures fourteen c.explain.ensures.own c.explain.ensures.rule in
    IfOk-weaker c.arg-16.result _ _ (λ r h. with_one h fifteen c.filters.ensures.own c.filters.ensures.rule)
    c.arg-16.ensures
