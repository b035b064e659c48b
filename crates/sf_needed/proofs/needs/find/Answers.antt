use Rattle.sf_needed.proofs.Common.{ap, arith, StoreData}
use Rattle.sf_needed.proofs.needs.find.Goals as goal

pub returns-clause-below : goal.returns-clause-below
returns-clause-below c = λ k d l.
    let below = rw c.programs.ensures.same at c.in_ok-needs.ensures.below in
    omega (arith, below k d l, c.programs.ensures.lawful.few)

pub returns-clause-needs : goal.returns-clause-needs
returns-clause-needs c = rw c.programs.ensures.same at c.in_ok-needs.ensures.needs

pub returns-clause-few : goal.returns-clause-few
returns-clause-few c =
    omega (
      arith,
      c.count.ensures.few,
      ap (λ (s : StoreData). s.most) c.in_ok-store.ensures.store,
      c.in_ok-needs.ensures.keeps.most,
    )
