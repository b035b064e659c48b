use Rattle.sf_piece.proofs.Lawful.{learnt_child}
use Rattle.sf_piece.proofs.deciding.child_facts.Goals as goal

pub returns-clause-facts : goal.returns-clause-facts
returns-clause-facts c =
    let below = rw (← c.run.view_is) at c.requires.below in
    let plain = rw (← c.run.view_is) at c.requires.plain in
    rw (← c.run.view_is) (learnt_child c.rules_are_sound.ensures.learning _ c.args.cond c.args.sense
    c.in_ok-learnt.learnt (rw (← c.run.view_is) at c.requires.lawful).run below plain c.in_ok-learnt.ensures.covers
    c.in_ok-learnt.ensures.rule)
