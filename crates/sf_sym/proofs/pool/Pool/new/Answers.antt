use Rattle.sf_sym.proofs.Common.{◌≡◌, ◌<◌, length, [], ◌∷◌, ◌++◌, arith, below_more, sym, ◌∙◌, length_push, get_or_append_left, get_or_push, AreOrdered-push, twins-push, node_at, Const, Word}
use Rattle.sf_sym.proofs.pool.Pool.new.Goals as goal

pub loop-i-preserved : goal.loop-i-preserved
loop-i-preserved c =
    let ns = c.loop-i.nodes in
    let i = c.loop-i.i in
    let old = c.loop-i.invariant in
    let nodes = c.in_ok-add.ensures.ok in
    record {
      count = rw nodes (length_push ns (Word i) ∙ omega arith);
      word = rw nodes (below_more (λ k. node_at (ns ++ Word i ∷ []) k ≡ Word k) i
          (λ k h. let l : k < length ns = omega arith in
          get_or_append_left ns (Word i ∷ []) (Const 0) k l ∙ old.word k h)
          (get_or_push ns (Word i) (Const 0) i old.count));
      ordered = rw nodes (AreOrdered-push 0 ns (Word i) old.ordered (omega arith));
      twins = rw nodes (twins-push ns (Word i) old.twins (λ k l e.
          let count = old.count in
          let same : Word k ≡ Word i = sym (old.word k (omega arith)) ∙ e in
          let clash : k ≡ i = cc in
          omega arith));
    }
