use Rattle.sf_dom.proofs.Common.{◌<◌, length, arith, refl, ap, slice_index}
use Rattle.sf_dom.proofs.propagation.Propagations.{variable-before, OperandsBelow-more}
use Rattle.sf_dom.proofs.Steps.{through-words, through-step, pass-met}
use Rattle.sf_dom.proofs.propagation.propagate.Goals as goal

pub loop-rank-init : goal.loop-rank-init
loop-rank-init c =
    through-words c.args.nodes.now c.args.excluded.now c.args.pool.now c.len-count.ensures.lawful c.requires.closed
    c.variable_count-rank-end.ensures.laid_out c.requires.fixed c.requires.words

pub returns-in_default-clause-pass : goal.returns-in_default-clause-pass
returns-in_default-clause-pass c =
    let n = c.loop-rank.nodes in let old = c.args.nodes.now in let ns = c.args.pool.now in
    let ex = c.args.excluded.now in let t = c.loop-rank.invariant in let rank = c.loop-rank.rank in
    let i = slice_index n.variables rank in
    let all = c.variable_count-rank-end.ensures.count in
    let told : rank < length n.variables = omega (arith, c.loop-rank-test.true, all, ap length t.variables) in
    let count = t.narrowed.closed.count in
    let below : i < length n.known = t.laid_out.within rank told in
    let here : i < length ns = omega arith in
    let place = c.variable-here.ensures.place in
    let node = rw place at c.node_at-node.ensures.node in
    let lawful = c.node_at-node.ensures.lawful in
    let rule = rw node at c.transfer.ensures in
    let is = pass-met old n ex ns rank i c.transfer.result c.meet-known.result lawful t told refl here rule
    (rw c.variable-here.ensures.known at c.meet-known.ensures) in
    record {
      new = n.known;
      place = i;
      within = here;
      before = λ k b. t.passed k (omega arith) (λ j a lj. variable-before n rank j k t.laid_out a lj b);
      none = rw (place, is) at c.in_default.ensures;
    }

pub loop-rank-preserved : goal.loop-rank-preserved
loop-rank-preserved c =
    let n = c.loop-rank.nodes in let old = c.args.nodes.now in let ns = c.args.pool.now in
    let ex = c.args.excluded.now in let t = c.loop-rank.invariant in let rank = c.loop-rank.rank in
    let i = slice_index n.variables rank in
    let all = c.variable_count-rank-end.ensures.count in
    let told : rank < length n.variables = omega (arith, c.loop-rank-test.true, all, ap length t.variables) in
    let count = t.narrowed.closed.count in
    let below : i < length n.known = t.laid_out.within rank told in
    let here : i < length ns = omega arith in
    let place = c.variable-here.ensures.place in
    let node = rw place at c.node_at-node.ensures.node in
    let lawful = c.node_at-node.ensures.lawful in
    let rule = rw node at c.transfer.ensures in
    let is = pass-met old n ex ns rank i c.transfer.result c.meet-known.result lawful t told refl here rule
    (rw c.variable-here.ensures.known at c.meet-known.ensures) in
    let set = c.set_variable.ensures in
    through-step old n c.set_variable.new.self ex ns rank i c.meet-known.result c.in-Some.next lawful c.requires.closed
    c.requires.fixed t told refl is (rw place at c.in-Some.ensures) set.known set.variables set.laid_out

pub transfer-requires : goal.transfer-requires
transfer-requires c =
    let n = c.loop-rank.nodes in let t = c.loop-rank.invariant in let rank = c.loop-rank.rank in
    let all = c.variable_count-rank-end.ensures.count in
    let told : rank < length n.variables = omega (arith, c.loop-rank-test.true, all, ap length t.variables) in
    let below : slice_index n.variables rank < length n.known = t.laid_out.within rank told in
    OperandsBelow-more _ (length n.known) _ (omega (arith, c.variable-here.ensures.place, below))
    c.node_at-node.ensures.operands
