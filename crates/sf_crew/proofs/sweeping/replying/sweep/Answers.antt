use Rattle.sf_crew.proofs.Common.{◌≡◌, ℕ, ◌+◌, List, [], ◌∷◌, ◌++◌, length, length-append, Some, slice_get, sym, ap, ◌∙◌, subst, arith, Reply, IsRightReplyAt}
use Rattle.sf_crew.proofs.sweeping.replying.Replies.{replies_more}
use Rattle.sf_crew.proofs.sweeping.replying.sweep.Goals as goal

pub loop-q-preserved : goal.loop-q-preserved
loop-q-preserved g c =
    let i = c.loop-q.invariant in let items = c.in_ok-push.ensures.items in
    let old : List Reply = c.loop-q.replies.items in let x : Reply = c.in_ok-reply.reply in
    let P : ℕ → Reply → Type 0 = IsRightReplyAt c.args.settled.now c.args.questions.now in
    let long : length (old ++ x ∷ []) ≡ length old + 1 = length-append old (x ∷ []) in record {
      count = ap (λ (l : List Reply). length l) items ∙ omega (arith, long, i.count);
      each = subst (λ (l : List Reply). (q : ℕ) (reply : Reply) → slice_get l q ≡ Some reply → P q reply) (sym items)
          (replies_more P old x i.each (subst (λ n. P n x) (sym i.count) c.in_ok-reply.ensures.ok));
    }
