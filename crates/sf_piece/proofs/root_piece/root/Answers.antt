use Rattle.sf_piece.proofs.Common.{refl}
use Rattle.sf_piece.proofs.root_piece.FirstPiece.{first_rule, first_made}
use Rattle.sf_piece.proofs.root_piece.root.Goals as goal

pub invariant_of-new : goal.invariant_of-new
invariant_of-new c =
    let zero = c.in_ok-zero.ensures in
    rw (c.in_ok-try_clone.ensures, c.in_ok-new.ensures, c.in_ok-conditions.ensures)
    (first_made _ c.push.new.self c.in_ok-zero.zero c.in_ok-facts.facts
    (rw c.deref.ensures at c.programs-programs.ensures.lawful) (first_rule _ c.in_ok-pool.pool c.push.new.self
    c.in_ok-zero.zero c.in_ok-facts.facts c.in_ok-pool.ensures.len zero.lawful zero.extends zero.within zero.kept
    zero.added c.in_ok-facts.ensures.rule) c.in_ok-facts.ensures.covers c.in_ok-facts.ensures.sound
    (zero.plain 0 refl c.in_ok-pool.ensures.plain)).0

pub returns : goal.returns
returns c =
    let zero = c.in_ok-zero.ensures in
    let made = first_made _ c.push.new.self c.in_ok-zero.zero c.in_ok-facts.facts
    (rw c.deref.ensures at c.programs-programs.ensures.lawful) (first_rule _ c.in_ok-pool.pool c.push.new.self
    c.in_ok-zero.zero c.in_ok-facts.facts c.in_ok-pool.ensures.len zero.lawful zero.extends zero.within zero.kept
    zero.added c.in_ok-facts.ensures.rule) c.in_ok-facts.ensures.covers c.in_ok-facts.ensures.sound
    (zero.plain 0 refl c.in_ok-pool.ensures.plain) in
    rw (c.in_ok-new-2.ensures.ok, c.in_ok-try_clone.ensures, c.in_ok-new.ensures, c.in_ok-conditions.ensures)
    (record { root = made.1; rule = made.2 })
