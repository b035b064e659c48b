use Rattle.sf_dom.proofs.Common.{common_steps, ◌≡◌, length, arith, arc_value}
use Rattle.sf_dom.proofs.nodes.KeptNodes.{variables-fit, kept-number, known-variable, kept-variable}
use Rattle.sf_dom.proofs.nodes.Nodes.push.Goals as goal

pub overflow_cast-rank : goal.overflow_cast-rank
overflow_cast-rank c = grind (arith, common_steps, variables-fit)

pub invariant_of-self-then-fixed : goal.invariant_of-self-then-fixed
invariant_of-self-then-fixed c = grind (arith, common_steps, kept-number)

pub invariant_of-self-2 : goal.invariant_of-self-2
invariant_of-self-2 c =
    let items = c.self.inside.variables.items in
    let count : c.len-rank.result ≡ length items = omega (arith, c.len-rank.ensures, c.self.inside.variables.ok.0) in
    rw (
      c.in_ok-add_variable.ensures.variable,
      c.in_ok-add_variable.ensures.slot,
      c.len-place.ensures.value,
      c.deref.ensures,
      count,
    ) (kept-variable (arc_value c.self.inside.slots) items c.args.known c.self.invariant)

pub returns-clause-ok : goal.returns-clause-ok
returns-clause-ok c =
    let items = c.self.inside.variables.items in
    let count : c.len-rank.result ≡ length items = omega (arith, c.len-rank.ensures, c.self.inside.variables.ok.0) in
    rw (
      ← c.self.view_is,
      c.in_ok-add_variable.ensures.variable,
      c.in_ok-add_variable.ensures.slot,
      c.len-place.ensures.value,
      c.deref.ensures,
      count,
    ) (known-variable (arc_value c.self.inside.slots) items c.args.known c.self.invariant)
