use Rattle.sf_dom.proofs.Common.{sym, ap, ◌∙◌, arith, get_or_read, arc_value, Variable, known_of, slot_known}
use Rattle.sf_dom.proofs.nodes.KeptNodes.{IsVariable, known-slot, variable-here}
use Rattle.sf_dom.proofs.nodes.Nodes.get.Goals as goal

-- the node is a variable
here : (c : goal.In-Variable) → IsVariable (arc_value c.self.inside.slots) c.self.inside.variables.items c.args.i
    c.in-Variable.rank
here c = variable-here (arc_value c.self.inside.slots) c.self.inside.variables.items c.args.i c.in-Variable.rank
    c.slot_of.result c.self.invariant (rw (← c.self.view_is) at c.requires)
    (rw c.deref.ensures at c.slot_of.ensures) c.in-Variable.is

pub index-requires : goal.index-requires
index-requires c = omega (arith, (here c).rank)

pub returns-in-Variable : goal.returns-in-Variable
returns-in-Variable c =
    let os = c.self.inside.variables.items in
    let v = variable-here (arc_value c.self.inside.slots) os c.args.i c.in-Variable.rank c.slot_of.result
    c.self.invariant (rw (← c.self.view_is) at c.requires) (rw c.deref.ensures at c.slot_of.ensures) c.in-Variable.is in
    let none : Variable = record { place = 0; known = known_of 0 0 0 0 } in
    let read = get_or_read os c.in-Variable.rank c.index.result.now v.rank c.index.ensures none in
    rw (← c.self.view_is) (ap (λ (o : Variable). o.known) read
    ∙ sym (known-slot (arc_value c.self.inside.slots) os c.args.i v.below ∙ ap (slot_known os) v.found))
