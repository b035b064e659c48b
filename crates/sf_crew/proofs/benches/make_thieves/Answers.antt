use Rattle.sf_crew.proofs.Common.{◌≡◌, ◌+◌, length, length-append, sym, ap, ◌∙◌, arith, All-push, All-same, HandleView, Thief, new_view, IsOnBench, thief_view}
use Rattle.sf_crew.proofs.benches.NewThieves.{one_thief_more}
use Rattle.sf_crew.proofs.benches.make_thieves.Goals as goal

pub loop-given-preserved : goal.loop-given-preserved
loop-given-preserved g c =
    let i = c.loop-given.invariant in
    let seen : thief_view c.in_ok-thief.thief ≡ new_view (c.loop-given.given + 1) 0 =
    c.in_ok-thief.ensures.thief ∙ ap (λ (e : HandleView g.row.T.Denot). new_view e.made 0) i.owner in
    let long : length c.loop-given.new_thieves.items ≡ c.loop-given.given = i.long in
    record {
      owner = search arith;
      count = omega (arith, c.in_ok-push.ensures.len, i.count);
      long = search (arith, length-append);
      thieves = search (arith, one_thief_more);
      one = All-same (λ (t : Thief g.row.T.Denot). IsOnBench c.add_thief.new.self t) _ _ c.in_ok-push.ensures.items
          (All-push (λ (t : Thief g.row.T.Denot). IsOnBench c.add_thief.new.self t) c.loop-given.new_thieves.items
          c.in_ok-thief.thief (λ k d there. i.one k d there ∙ sym c.in_ok-thief.ensures.one.1)
          c.in_ok-thief.ensures.one.0);
    }
