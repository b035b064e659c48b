use Rattle.sf_relations.proofs.Common.{ℕ, suc, List, [], ◌∷◌, Option, None, length, take, drop, sym, subst, arith, remove, slice_index_or, take_more, Insn, keeps_more, IsBehaviour, Looser, Example, IsFinding, behaviour_kept}
use Rattle.sf_relations.proofs.parts.PartLemmas.{count-pushed, of-all, of-behind, of-one, parts-kept, pushed}
use Rattle.sf_relations.proofs.needs.find_each.Goals as goal

pub least_example-requires-clause-after : goal.least_example-requires-clause-after
least_example-requires-clause-after c =
    let ps = c.args.programs.now in
    let place = c.loop-place.place in
    (c.in_ok-without.ensures.joined (take place ps) (drop (suc place) ps) c.loop-place.invariant.older
    (of-behind c.loop-place.store.trees ps c.args.alone.now c.args.last.now place c.loop-place.invariant.parts
    (omega arith))).within

pub loop-place-preserved : goal.loop-place-preserved
loop-place-preserved c =
    let ps = c.args.programs.now in
    let place = c.loop-place.place in
    let before = c.loop-place.invariant in
    let k1 = c.in_ok-without.ensures.keeps in
    let k2 = keeps_more _ _ _ k1 c.in_ok-found.ensures.keeps in
    let k3 = keeps_more _ _ _ k2 c.in_ok-older.ensures.keeps in
    let new : IsFinding ps (remove ps place) Looser c.in_ok-found.found
    = c.in_ok-found.ensures.found ps (remove ps place)
    (behaviour_kept _ _ ps _ k1.trees (of-all _ ps c.args.alone.now _ before.parts))
    (c.in_ok-without.ensures.joined (take place ps) (drop (suc place) ps) before.older
    (of-behind _ ps c.args.alone.now _ place before.parts (omega arith))) in
    record {
      keeps = keeps_more _ _ _ before.keeps k3;
      parts = parts-kept _ _ ps (length ps) c.args.alone.now _ k3.trees before.parts;
      older = subst (λ (qs : List (List Insn)). IsBehaviour qs c.join-in-loop-place.new.store.trees c.in_ok-older.older)
          (sym (take_more ps place [] (omega arith))) (c.in_ok-older.ensures.joined (take place ps) _
          (behaviour_kept _ _ (take place ps) _ k2.trees before.older) (behaviour_kept _ _
          (slice_index_or ps place [] ∷ []) _ k2.trees
          (of-one _ ps _ c.args.last.now place before.parts (omega arith))));
      count = count-pushed _ _ _ place before.count c.in_ok-push.ensures.items;
      found = pushed (λ (k : ℕ) (f : Option Example). IsFinding ps (remove ps k) Looser f) _ _ c.in_ok-found.found None
          place before.count before.found new c.in_ok-push.ensures.items;
    }
