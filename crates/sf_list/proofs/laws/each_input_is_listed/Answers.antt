use Rattle.sf_list.proofs.Common.{◌∙◌, ap, answer_with}
use Rattle.sf_rows.specs.declared.subject.Subject.TheVariants as subject
use Rattle.sf_list.proofs.listing.ListingLemmas.{one-where-shown}
use Rattle.sf_list.proofs.laws.each_input_is_listed.Goals as goal

pub returns-clause-one : goal.returns-clause-one
returns-clause-one c = λ sets l d a h input answers.
    let over = c.trees_have_the_answers.ensures.input l.programs h.tree h.answers in
    let shown = c.trees_have_the_answers.ensures.answer l.programs h.tree d a h.answers input answers in
    rw h.shown (c.each_input_lies_in_its_row.ensures.one subject.Stack h.tree d over input
    ∙ one-where-shown _ _ shown.1)

pub returns-clause-answer : goal.returns-clause-answer
returns-clause-answer c = λ sets l d a r h input answers there yes.
    let over = c.trees_have_the_answers.ensures.input l.programs h.tree h.answers in
    let shown = c.trees_have_the_answers.ensures.answer l.programs h.tree d a h.answers input answers in
    ap answer_with (c.each_input_lies_in_its_row.ensures.number subject.Stack h.tree d r over input
    (rw h.shown at there) yes)
    ∙ shown.0
