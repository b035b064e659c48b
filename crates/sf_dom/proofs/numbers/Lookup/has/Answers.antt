use Rattle.sf_dom.proofs.Common.{refl, Contains-append_right}
use Rattle.sf_dom.proofs.AscendingLemmas.{contains-in}
use Rattle.sf_dom.proofs.numbers.Lookup.has.Goals as goal

pub returns-in-Newer-clause-has : goal.returns-in-Newer-clause-has
returns-in-Newer-clause-has c = rw (← c.self.view_is) (
  (λ _. contains-in _ c.args.number
      (Contains-append_right c.self.inside.older.now c.self.inside.newer.now c.args.number c.in-Newer.ensures)),
  (λ _. refl),
)
