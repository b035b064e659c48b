use Rattle.sf_list.proofs.Common.{◌∙◌, ap, after_of, before_of}
use Rattle.sf_rows.specs.declared.subject.Subject.TheVariants as subject
use Rattle.sf_list.proofs.listing.ListingLemmas.{none-where-hidden, one-where-shown}
use Rattle.sf_list.proofs.laws.each_change_is_listed.Goals as goal

pub returns-clause-none : goal.returns-clause-none
returns-clause-none c = λ old new sets x d a b h input before after unasked.
    let over = c.trees_have_the_changes.ensures.input x.only h.before h.after h.tree
    (c.trees_have_the_answers.ensures.input old h.before h.was)
    (c.trees_have_the_answers.ensures.input new h.after h.is) h.changed in
    let hidden = c.trees_have_the_changes.ensures.unasked x.only old new h.before h.after h.tree d a b h.was h.is
    h.changed input before after unasked in
    rw h.shown_is (c.each_input_lies_in_its_row.ensures.one subject.Change h.tree d over input
    ∙ none-where-hidden _ _ hidden)

pub returns-clause-one : goal.returns-clause-one
returns-clause-one c = λ old new sets x d a b h input before after asked.
    let over = c.trees_have_the_changes.ensures.input x.only h.before h.after h.tree
    (c.trees_have_the_answers.ensures.input old h.before h.was)
    (c.trees_have_the_answers.ensures.input new h.after h.is) h.changed in
    let changed = c.trees_have_the_changes.ensures.asked x.only old new h.before h.after h.tree d a b h.was h.is
    h.changed input before after asked in
    rw h.shown_is (c.each_input_lies_in_its_row.ensures.one subject.Change h.tree d over input
    ∙ one-where-shown _ _ changed.0)

pub returns-clause-answers : goal.returns-clause-answers
returns-clause-answers c = λ old new sets x d a b r h input before after asked there yes.
    let over = c.trees_have_the_changes.ensures.input x.only h.before h.after h.tree
    (c.trees_have_the_answers.ensures.input old h.before h.was)
    (c.trees_have_the_answers.ensures.input new h.after h.is) h.changed in
    let changed = c.trees_have_the_changes.ensures.asked x.only old new h.before h.after h.tree d a b h.was h.is
    h.changed input before after asked in
    let number = c.each_input_lies_in_its_row.ensures.number subject.Change h.tree d r over input
    (rw h.shown_is at there) yes in
    (ap before_of number ∙ changed.1, ap after_of number ∙ changed.2)
