use Rattle.sf_piece.proofs.Common.{common_steps, ◌++◌, ◌∷◌, [], sym, subst, ◌∙◌, arith, with_sense, IsSide, PieceData, IsLawfulPiece}
use Rattle.sf_piece.proofs.Lawful.{child_made}
use Rattle.sf_piece.proofs.Sizes.{short_name}
use Rattle.sf_piece.proofs.deciding.child.Goals as goal

pub push-requires : goal.push-requires
push-requires c = grind (arith, common_steps, short_name)

pub returns : goal.returns
returns c =
    let p : PieceData = c.args.run.now in
    let i = c.args.insn in
    let b = c.args.sense in
    let cond = c.args.cond in
    let m = c.meet.new.run.machine in
    let after = rw c.in_ok-side.ensures at c.meet.ensures.machine in
    let same = c.side.view_is ∙ (rw c.in_ok-side.ensures at c.meet.ensures.rest) in
    let made = subst (λ (r : PieceData). let q : PieceData = record r {
      name = r.name ++ b ∷ [];
      conditions = r.conditions ++ with_sense cond b ∷ [];
      facts = c.args.facts;
    } in IsLawfulPiece q × IsSide (p, cond) i b q) (sym same)
    (child_made p i cond b m c.args.facts c.requires.lawful c.requires.standing c.requires.query c.requires.facts
    after) in
    rw (c.in_ok-push.ensures.ok, c.in_ok-push-2.ensures.ok)
    (record { lawful = made.0; rule = made.1 })
