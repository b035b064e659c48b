use Rattle.sf_sym.proofs.Common.{◌≡◌, ◌+◌, ◌<◌, ◌-◌, length, arith, ap, sym, ◌∙◌, nodes_of, link_at}
use Rattle.sf_sym.proofs.index.IndexLemmas.{IsSearched-step, node-read, length-nodes, blank}
use Rattle.sf_sym.proofs.index.place_of.Goals as goal

pub returns-then-is_same-clause-found : goal.returns-then-is_same-clause-found
returns-then-is_same-clause-found c = λ i e.
    let es = c.args.interned_nodes.now in
    let at : c.loop-next.next - 1 ≡ i = cc in
    let within : c.loop-next.next - 1 < length es = omega (arith, c.loop-next.invariant.within, length-nodes es) in
    let read = node-read es (c.loop-next.next - 1) c.get-interned.result within (c.get-interned.ensures blank) in
    let same = c.is_same.ensures.same c.if-is_same.true in
    let there : c.loop-next.next - 1 < length (nodes_of es) = omega (arith, within, length-nodes es) in
    rw (← at) (there, read ∙ same)

pub loop-next-preserved : goal.loop-next-preserved
loop-next-preserved c =
    let es = c.args.interned_nodes.now in
    let p = c.loop-next.next - 1 in
    let within : p < length es = omega (arith, c.loop-next.invariant.within, length-nodes es) in
    let link : c.get-interned.result.link ≡ link_at es p = ap (λ x. x.link) (c.get-interned.ensures blank) in
    let read = node-read es p c.get-interned.result within (c.get-interned.ensures blank) in
    let next : c.loop-next.next ≡ p + 1 = omega arith in
    rw link (IsSearched-step (nodes_of es) c.args.node p (link_at es p) (rw next at c.loop-next.invariant)
    (λ e. c.is_same.ensures.differ c.if-is_same.false (sym read ∙ e)) (c.requires.indexed.linked p within))

pub returns-clause-absent : goal.returns-clause-absent
returns-clause-absent c = λ _ i h. c.loop-next.invariant.absent i (omega arith) h
