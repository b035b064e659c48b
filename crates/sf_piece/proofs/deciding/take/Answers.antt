use Rattle.sf_piece.proofs.Common.{common_steps, arith, refl, sym, subst, ◌∙◌, ◌++◌, ◌∷◌, [], On, PieceData, IsSmallStep, IsNamedOn}
use Rattle.sf_piece.proofs.Lawful.{take_step}
use Rattle.sf_piece.proofs.Sizes.{short_name}
use Rattle.sf_piece.proofs.deciding.take.Goals as goal

pub push-requires : goal.push-requires
push-requires c = grind (arith, common_steps, short_name)

pub returns : goal.returns
returns c =
    let p : PieceData = c.args.run.now in
    let i = c.args.insn in
    let b = c.args.sense in
    let after = c.meet.ensures.machine in
    let same = c.run.view_is ∙ c.meet.ensures.rest in
    let made = subst (λ (r : PieceData). let q : PieceData = record r { name = r.name ++ b ∷ [] } in
    IsSmallStep p q On × IsNamedOn p i b q) (sym same) (
      take_step p i b c.meet.new.run.machine c.requires.lawful c.requires.standing c.requires.foreseen after,
      record { machine = after; rest = refl },
    ) in
    rw c.in_ok-push.ensures.ok (record { step = made.0; rule = made.1 })
