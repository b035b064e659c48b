use Rattle.sf_book.proofs.Common.{common_steps, ◌≡◌, ap, sym, ◌∙◌, arith, Split, Settled, Empty, Step, step_data, name_after}
use Rattle.sf_book.proofs.Lists.{low_id}
use Rattle.sf_book.proofs.book.Kept.{child_names, children_differ}
use Rattle.sf_book.proofs.book.Plain.{split_book, split_commits, answer_book, empty_book}
use Rattle.sf_book.proofs.book.Book.replace.Goals as goal

pub split-requires-clause-ids : goal.split-requires-clause-ids
split-requires-clause-ids c =
    let m = rw (← c.self.view_is) at c.requires.may in
    (low_id _ c.args.id c.self.inside.next_id m.under_id c.self.invariant.kept.below m.there, omega arith)

pub split-requires-clause-apart : goal.split-requires-clause-apart
split-requires-clause-apart c =
    let parts = c.into_parts-piece.ensures in
    let is : c.args.work.step ≡ Split c.in-Split.f.value c.in-Split.t.value =
    sym parts.step ∙ ap step_data c.in-Split.is in
    child_names _ c.args.id c.args.work _ _ c.self.invariant.kept.lawful (rw (← c.self.view_is) at c.requires.may)
    (rw is at parts.right.1).0

pub split-requires-clause-differ : goal.split-requires-clause-differ
split-requires-clause-differ c =
    let parts = c.into_parts-piece.ensures in
    let is : c.args.work.step ≡ Split c.in-Split.f.value c.in-Split.t.value =
    sym parts.step ∙ ap step_data c.in-Split.is in
    children_differ c.args.work.piece c.in-Split.f.value c.in-Split.t.value (rw is at parts.right.1).0

pub invariant_of-self-in-Split-1 : goal.invariant_of-self-in-Split-1
invariant_of-self-in-Split-1 c =
    let parts = c.into_parts-piece.ensures in
    let is : c.args.work.step ≡ Split c.in-Split.f.value c.in-Split.t.value =
    sym parts.step ∙ ap step_data c.in-Split.is in
    rw c.in_ok-split-in-Split.ensures.ok (split_book _ c.self.inside.next_id c.args.id c.args.work c.self.invariant
    (rw (← c.self.view_is) at c.requires.may) (rw (← c.self.view_is) at c.requires.room) _ _ (search arith))

pub returns-in_ok-split-in-Split-clause-ok : goal.returns-in_ok-split-in-Split-clause-ok
returns-in_ok-split-in-Split-clause-ok c = grind (arith, common_steps, split_commits)

pub invariant_of-self-in-Settled : goal.invariant_of-self-in-Settled
invariant_of-self-in-Settled c =
    let parts = c.into_parts-piece.ensures in
    let is : c.args.work.step ≡ Settled c.in-Settled.answer = sym parts.step ∙ ap step_data c.in-Settled.is in
    let name : c.in-Settled.name ≡ c.args.work.name =
    sym (ap (λ (s : Step). name_after s c.args.work.piece.name) c.in-Settled.is) ∙ parts.name in
    rw (c.remove.ensures, c.in_ok-add-in-Settled.ensures.ok, c.of.ensures, parts.piece, name)
    (answer_book _ c.self.inside.next_id c.args.id c.args.work c.self.invariant
    (rw (← c.self.view_is) at c.requires.may) (rw (← c.self.view_is) at c.requires.room) c.in-Settled.answer
    (search arith))

pub invariant_of-self-in-Empty : goal.invariant_of-self-in-Empty
invariant_of-self-in-Empty c =
    let parts = c.into_parts-piece.ensures in
    let is : c.args.work.step ≡ Empty = sym parts.step ∙ ap step_data c.in-Empty.is in
    rw (c.remove-in-Empty.ensures, c.in_ok-add-in-Empty.ensures.ok, parts.piece)
    (empty_book _ c.self.inside.next_id c.args.id c.args.work c.self.invariant
    (rw (← c.self.view_is) at c.requires.may) (rw (← c.self.view_is) at c.requires.room) (search arith))
