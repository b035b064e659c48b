use Rattle.sf_evaluate.proofs.Common.{IfErr-weaker, sym, ◌∙◌, found_of, rows_of}
use Rattle.sf_evaluate.proofs.words.asking.AskingLemmas.{misspelled}
use Rattle.sf_evaluate.proofs.words.asking.asked_input.Goals as goal

pub returns-clause-refused : goal.returns-clause-refused
returns-clause-refused c = IfErr-weaker c.asked_call.result _ _
    (λ e why. misspelled (rows_of (found_of c.args.found.now)) c.args.names.now e
    (sym c.is_given.ensures ∙ c.if-is_given.false) why)
    c.asked_call.ensures.refused
