use Rattle.sf_evaluate.proofs.Common.{◌∙◌, ap, lit<, rules, tests, not, Bor, Text, find_from_yields_List, YieldsList-from_str_split, comma_parts, is_wanted_once}
use Rattle.sf_evaluate.proofs.words.WordLemmas.{none_fails}
use Rattle.sf_evaluate.proofs.words.asking.AskingLemmas.{read_some}
use Rattle.sf_evaluate.proofs.words.wanted.WantedLemmas.{names_there}
use Rattle.sf_evaluate.proofs.words.wanted.wrong_name.Goals as goal

pub returns : goal.returns
returns c =
    let names = comma_parts c.args.text.now in
    rw (names_there c.args.text.now (rw c.is_empty.ensures at c.if-is_empty.false))
    (ap not (read_some (λ (t : Bor Text). t.now) c.find.result _ (find_from_yields_List
    (λ name. not (is_wanted_once names name)) _ _ _ c.find.ensures.ran
    (YieldsList-from_str_split 44 c.args.text.now (lit< tt) c.split.ensures.text c.split.ensures.has_more
    c.split.ensures.pattern) (λ x b q k. search (rules, tests))))
    ∙ none_fails (is_wanted_once names) names)
