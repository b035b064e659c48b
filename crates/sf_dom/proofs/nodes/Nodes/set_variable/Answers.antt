use Rattle.sf_dom.proofs.Common.{◌≡◌, ◌<◌, length, arith, get_or_read, arc_value, known_of, variable_at}
use Rattle.sf_dom.proofs.nodes.KeptNodes.{laid-out, known-set_known, places-set_known, kept-set_known, places-length}
use Rattle.sf_dom.proofs.nodes.Nodes.set_variable.Goals as goal

-- the rank is that of a variable
within : (c : goal.After-self-1) → c.args.rank < length c.self.inside.variables.items
within c = omega (arith, rw (← c.self.view_is) at c.requires, places-length c.self.inside.variables.items)

-- this variable is written
found : (c : goal.After-self-1) → c.index_mut.result.now ≡ variable_at c.self.inside.variables.items c.args.rank
found c = get_or_read c.self.inside.variables.items c.args.rank c.index_mut.result.now (within c)
    c.index_mut.ensures.value (record { place = 0; known = known_of 0 0 0 0 })

pub invariant_of-self : goal.invariant_of-self
invariant_of-self c = rw (found c) (kept-set_known (arc_value c.self.inside.slots) c.self.inside.variables.items
    c.args.rank c.args.known c.self.invariant (within c))

pub returns-clause-known : goal.returns-clause-known
returns-clause-known c = rw (← c.self.view_is, found c) (known-set_known (arc_value c.self.inside.slots)
    c.self.inside.variables.items c.args.rank c.args.known c.self.invariant (within c))

pub returns-clause-variables : goal.returns-clause-variables
returns-clause-variables c = rw (← c.self.view_is, found c)
    (places-set_known c.self.inside.variables.items c.args.rank c.args.known (within c))

pub returns-clause-laid_out : goal.returns-clause-laid_out
returns-clause-laid_out c = laid-out (arc_value c.self.inside.slots) _ (invariant_of-self c)
