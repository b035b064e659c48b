use Rattle.sf_evaluate.proofs.Common.{◌∙◌, first_value-rows, found_of}
use Rattle.sf_evaluate.proofs.words.asking.AskingLemmas.{read_some}
use Rattle.sf_evaluate.proofs.words.asking.is_given.Goals as goal

pub returns : goal.returns
returns c =
    c.is_some.ensures
    ∙ read_some (λ t. t.now) c.get_str.result _
    (c.get_str.ensures ∙ first_value-rows (found_of c.args.found.now) c.args.name.now)
