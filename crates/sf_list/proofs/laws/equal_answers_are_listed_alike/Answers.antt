use Rattle.sf_rows.specs.declared.subject.Subject.TheVariants as subject
use Rattle.sf_list.proofs.listing.ListingLemmas.{digested-alike, told-alike}
use Rattle.sf_list.proofs.laws.equal_answers_are_listed_alike.Goals as goal

pub returns-clause-shown : goal.returns-clause-shown
returns-clause-shown c = λ sets calls k l h i alike.
    let one = c.equal_answers_are_shown_alike.ensures.tree k.programs l.programs h.tree i.tree h.answers
    i.answers alike in
    c.equal_answers_are_shown_alike.ensures.shown calls subject.Stack i.tree sets k.shown l.shown
    (rw one at h.shown) i.shown

pub returns-clause-text : goal.returns-clause-text
returns-clause-text c = λ sets calls k l h i alike size.
    let one = c.equal_answers_are_shown_alike.ensures.tree k.programs l.programs h.tree i.tree h.answers
    i.answers alike in
    told-alike sets k l size (c.equal_answers_are_shown_alike.ensures.shown calls subject.Stack i.tree sets k.shown
    l.shown (rw one at h.shown) i.shown)

pub returns-clause-digest : goal.returns-clause-digest
returns-clause-digest c = λ sets more k l h i alike.
    let one = c.equal_answers_are_shown_alike.ensures.tree k.programs l.programs h.tree i.tree h.answers
    i.answers alike in
    digested-alike k l h.tree i.tree h.shown i.shown one
