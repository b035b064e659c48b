use Rattle.sf_list.proofs.Common.{◌∙◌, ℕ, ap, if◌then◌else◌, answer_with, is_named_call, tree_word}
use Rattle.sf_rows.specs.declared.subject.Subject.TheVariants as subject
use Rattle.sf_list.proofs.listing.ListingLemmas.{one-where-shown}
use Rattle.sf_list.proofs.laws.each_other_input_is_listed.Goals as goal

pub returns-clause-one : goal.returns-clause-one
returns-clause-one c = λ sets l d a h input answers.
    let over = c.trees_have_the_answers.ensures.input l.programs h.tree h.answers in
    let shown = c.trees_have_the_answers.ensures.answer l.programs h.tree d a h.answers input answers in
    let others = h.shown.1 in
    rw others.2 (c.each_other_input_lies_in_its_row.ensures.one subject.Stack h.tree others.0 sets d over others.1 input
    ∙ ap (λ (n : ℕ). if is_named_call sets (tree_word d 18) (tree_word d 19) then 0 else n)
    (one-where-shown _ _ shown.1))

pub returns-clause-answer : goal.returns-clause-answer
returns-clause-answer c = λ sets l d a r h input answers there yes.
    let over = c.trees_have_the_answers.ensures.input l.programs h.tree h.answers in
    let shown = c.trees_have_the_answers.ensures.answer l.programs h.tree d a h.answers input answers in
    let others = h.shown.1 in
    ap answer_with (c.each_other_input_lies_in_its_row.ensures.number subject.Stack h.tree others.0 sets d r over
    others.1 input (rw others.2 at there) yes)
    ∙ shown.0
