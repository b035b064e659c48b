use Rattle.sf_dom.proofs.Common.{◌≡◌, length, arith, ◌∷◌, [], sym, ap, ◌∙◌, inl, inr, and_parts, cases_lt, eqb-true, ◌&&◌, is_decided, length_push, take-append-le, node_at, AreConsistent, forward_node, closed-consistent}
use Rattle.sf_dom.proofs.Passes.{one-number, operands-below}
use Rattle.sf_dom.proofs.propagation.Propagations.{listed-push, ruled-push, consistent-operands, taken-consistent}
use Rattle.sf_dom.proofs.propagation.append.Goals.{then-fixed, else-fixed}
use Rattle.sf_dom.proofs.propagation.append.Goals as goal

pub loop-i-preserved : goal.loop-i-preserved
loop-i-preserved c =
    let ks = c.loop-i.nodes.known in let old = c.args.nodes.now.known in let ns = c.args.pool.now in
    let ex = c.args.excluded.now in let i = c.loop-i.i in let inv = c.loop-i.invariant in let count = inv.count in
    let longer = inv.longer in
    let lawful = c.node_at-node.ensures.lawful in
    let is : AreConsistent old → c.transfer-known.result ≡ forward_node ks (node_at ns i)
    = λ consistent. (rw c.node_at-node.ensures.node at c.transfer-known.ensures)
    (consistent-operands ks i (node_at ns i)
    (operands-below ns i lawful (omega arith)) (taken-consistent old ks ex ns i inv.kept consistent
    (inv.ruled consistent))) in
    let next = c.in-Some.next in
    let both : c.if-fixed.push ≡ (c.is_fixed-fixed.result && is_decided c.in-Some.next) = elim c.if-fixed.branch [
      | then-fixed w ↦ rw w.if-fixed.true w.push-is
      | else-fixed w ↦ rw w.if-fixed.false (w.push-is ∙ w.if-fixed.false)
    ] in
    rw c.in_ok-push-in-Some.ensures.ok (record {
      count = omega (arith, length_push ks next);
      kept = take-append-le (length old) ks (next ∷ []) longer ∙ inv.kept;
      longer = omega (arith, length_push ks next);
      listed = listed-push c.args.nodes.now.variables c.loop-i.nodes.variables c.push.new.self.variables ks ns
          (length old) i c.if-fixed.push next lawful count (omega arith) (omega arith)
          (both ∙ rw c.node_at-node.ensures.node at
          (ap (λ b. b && is_decided next) c.is_fixed-fixed.ensures)) inv.listed c.in_ok-push-in-Some.ensures.variables;
      ruled = λ consistent.
          ruled-push ks ex ns (length old) i c.transfer-known.result next lawful count (omega arith)
          (inv.ruled consistent) (is consistent) c.in-Some.ensures;
    })

pub returns-in-None-clause-rule : goal.returns-in-None-clause-rule
returns-in-None-clause-rule c = λ consistent.
    let ks = c.loop-i.nodes.known in let old = c.args.nodes.now.known in let ns = c.args.pool.now in
    let ex = c.args.excluded.now in let i = c.loop-i.i in let inv = c.loop-i.invariant in let count = inv.count in
    let longer = inv.longer in
    let lawful = c.node_at-node.ensures.lawful in
    let is : AreConsistent old → c.transfer-known.result ≡ forward_node ks (node_at ns i)
    = λ consistent. (rw c.node_at-node.ensures.node at c.transfer-known.ensures)
    (consistent-operands ks i (node_at ns i)
    (operands-below ns i lawful (omega arith)) (taken-consistent old ks ex ns i inv.kept consistent
    (inv.ruled consistent))) in
    record {
      new = ks;
      place = i;
      newer = omega arith;
      within = omega arith;
      kept = inv.kept;
      before = inv.ruled consistent;
      none = rw (is consistent) at c.in-None.ensures;
    }

pub returns-clause-rule : goal.returns-clause-rule
returns-clause-rule c = λ consistent.
    let inv = c.loop-i.invariant in
    record {
      count = omega (arith, inv.count);
      kept = inv.kept;
      each = λ k a l. inv.ruled consistent k a (omega arith);
    }

pub push-requires : goal.push-requires
push-requires c =
    let inv = c.loop-i.invariant in let count = inv.count in let next = c.in-Some.next in
    let both : c.if-fixed.push ≡ (c.is_fixed-fixed.result && is_decided next) = elim c.if-fixed.branch [
      | then-fixed w ↦ rw w.if-fixed.true w.push-is
      | else-fixed w ↦ rw w.if-fixed.false (w.push-is ∙ w.if-fixed.false)
    ] in
    record {
      word = λ t.
          let told = sym (rw c.node_at-node.ensures.node at c.is_fixed-fixed.ensures)
          ∙ (and_parts c.is_fixed-fixed.result (is_decided next) (sym both ∙ t)).0 in
          elim (cases_lt c.loop-i.i 16) [
            | inl b ↦ (let clash = rw (c.node_at-node.ensures.lawful.word c.loop-i.i b) at told in absurd cc)
            | inr g ↦ omega arith
          ];
      number = λ t. one-number next (closed-consistent next c.in-Some.ensures.is.known)
          (eqb-true next.low next.high (and_parts c.is_fixed-fixed.result (is_decided next) (sym both ∙ t)).1);
    }
