use Rattle.sf_piece.proofs.Common.{refl, sym, subst, IsPlain}
use Rattle.sf_piece.proofs.Plain.{plain_some}
use Rattle.sf_piece.proofs.Joined.{split_on, answer_on, none_on, split_step, settled_step}
use Rattle.sf_piece.proofs.OnePiece.{sides_reached}
use Rattle.sf_piece.proofs.work.step_of.Goals as goal

pub invariant_of-new : goal.invariant_of-new
invariant_of-new c =
    let h = rw c.in-Split.is at c.requires in
    let reached = rw c.deref.ensures at c.name-name.ensures.reached in
    record { lawful = h.step.2; reached = (sides_reached _ _ _ reached (split_step _ _ _ _ h.goes h.rule)).0 }

pub invariant_of-new-in-Split : goal.invariant_of-new-in-Split
invariant_of-new-in-Split c =
    let h = rw c.in-Split.is at c.requires in
    let reached = rw c.deref.ensures at c.name-name.ensures.reached in
    record { lawful = h.step.3; reached = (sides_reached _ _ _ reached (split_step _ _ _ _ h.goes h.rule)).1 }

pub returns-in_ok-true_piece-in-Split : goal.returns-in_ok-true_piece-in-Split
returns-in_ok-true_piece-in-Split c =
    let h = rw c.in-Split.is at c.requires in
    let plain = rw c.deref.ensures at c.name-name.ensures.plain in
    rw (c.in_ok-false_piece-in-Split.ensures.ok, c.in_ok-true_piece-in-Split.ensures.ok) (record {
      right = (rw c.deref.ensures at c.name-name.ensures.named, (split_on _ _ _ _ h.is_on h.step.0, refl));
      plain = λ is. record { piece = plain is; step = h.step.1 (subst IsPlain (sym h.is_on.of) is) };
      rule = split_step _ _ _ _ h.goes h.rule;
      reached = rw c.deref.ensures at c.name-name.ensures.reached;
    })

pub returns-in-Settled : goal.returns-in-Settled
returns-in-Settled c =
    let h = rw c.in-Settled.is at c.requires in
    let plain = rw c.deref.ensures at c.name-name.ensures.plain in
    let right = answer_on _ _ _ _ h.is_on h.step in
    rw (c.into_parts-whole.ensures.name, c.into_parts-whole.ensures.answer) (record {
      right = (rw c.deref.ensures at c.name-name.ensures.named, right);
      plain = λ is. let some = (plain is).some in
          record { piece = plain is; step = (some.0, some.1, some.2, right.trace some.0 some.1 some.2) };
      rule = settled_step _ _ _ h.goes h.rule;
      reached = rw c.deref.ensures at c.name-name.ensures.reached;
    })

pub returns-in-Empty : goal.returns-in-Empty
returns-in-Empty c =
    let h = rw c.in-Empty.is at c.requires in
    let plain = rw c.deref.ensures at c.name-name.ensures.plain in
    let none = none_on _ _ h.is_on h.step in
    record {
      right = (rw c.deref.ensures at c.name-name.ensures.named, (none, refl));
      plain = λ is. absurd (plain_some _ (plain is) none);
      rule = (h.goes.0, h.last, h.goes.1, (h.rule, refl));
      reached = rw c.deref.ensures at c.name-name.ensures.reached;
    }
