use Rattle.sf_dom.proofs.Common.{arith, arc_value}
use Rattle.sf_dom.proofs.nodes.KeptNodes.{variable-here, places-length}
use Rattle.sf_dom.proofs.nodes.Nodes.set.Goals as goal

pub set_variable-requires : goal.set_variable-requires
set_variable-requires c =
    let os = c.self.inside.variables.items in
    let v = variable-here (arc_value c.self.inside.slots) os c.args.i c.in-Variable.rank
    c.slot_of.result c.self.invariant (rw (← c.self.view_is) at c.requires.within)
    (rw c.deref.ensures at c.slot_of.ensures) c.in-Variable.is in
    rw (← c.self.view_is) (omega (arith, v.rank, places-length os))
