use Rattle.std.proofs.Common.{◌≡◌, List, All, subst}
use Rattle.sf_crew.specs.declared.board.Seat.{Seat}
use Rattle.sf_crew.specs.Boards.{IsNewSeat}
use Rattle.crew_tests.proofs.board.Ends.{last_of, others_of}
use Rattle.crew_tests.proofs.board.two_of.Goals as goal

pub returns : goal.returns
returns c =
    let New : Seat → Type 0 = λ s. IsNewSeat c.args.board.now s in
    let all = subst (λ (l : List Seat). All New l) c.in-Some.ensures.items c.requires in (
      last_of New _ _ all,
      last_of New _ _ (subst (λ (l : List Seat). All New l) c.in-Some-pop.ensures.items
          (others_of New _ _ all)),
    )
