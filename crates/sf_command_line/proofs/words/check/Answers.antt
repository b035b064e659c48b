use Rattle.sf_command_line.proofs.Common.{◌≡◌, ap, codes, ◌∙◌, IfOk-weaker, app_of, new_app, app_of_fields}
use Rattle.sf_command_line.proofs.words.WordsLemmas.{with_help, with_one}
use Rattle.sf_command_line.proofs.words.check.Goals as goal

pub returns : goal.returns
returns c =
    let bare : app_of c.about.result ≡ new_app (codes "check") = ap app_of_fields c.about.ensures ∙ c.new.ensures.app in
    let one = with_help c.switch.result c.in_ok-arg.ensures c.help.ensures bare
    c.switch.ensures.own c.switch.ensures.rule in
    let two = with_one c.in_ok-arg-2.ensures one c.json.ensures.own c.json.ensures.rule in
    let three = with_one c.in_ok-arg-3.ensures two c.quiet.ensures.own c.quiet.ensures.rule in
    let four = with_one c.in_ok-arg-4.ensures three c.explain.ensures.own c.explain.ensures.rule in
    IfOk-weaker c.arg-5.result _ _ (λ r h. with_one h four c.filters.ensures.own c.filters.ensures.rule)
    c.arg-5.ensures
