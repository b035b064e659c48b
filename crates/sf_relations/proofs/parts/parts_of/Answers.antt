use Rattle.sf_relations.proofs.Common.{◌-◌, List, [], ◌∷◌, length, drop, subst, arith, slice_index_or, Insn, keeps_more, IsBehaviour, behaviour_kept}
use Rattle.sf_relations.proofs.parts.PartLemmas.{parts-more, one-program, one-more-last}
use Rattle.sf_relations.proofs.parts.parts_of.Goals as goal

pub loop-i-preserved : goal.loop-i-preserved
loop-i-preserved c =
    let ps = c.args.programs.now in
    let i = c.loop-i.i in
    let place = length ps - 1 - i in
    let us = c.join.new.store.trees in
    let before = c.loop-i.invariant in
    let k1 = c.in_ok-one.ensures.keeps in
    let k2 = c.in_ok-so_far-2.ensures.keeps in
    let k = keeps_more _ _ _ k1 k2 in
    let p : List Insn = slice_index_or ps place [] in
    let one = subst (λ (qs : List (List Insn)). IsBehaviour qs c.behaviour-in-loop-i.new.store.trees c.in_ok-one.one)
    (one-program ps place (omega arith)) c.in_ok-one.ensures.answers in
    let next = subst (λ (qs : List (List Insn)). IsBehaviour qs us c.in_ok-so_far-2.so_far)
    (one-more-last ps i (omega arith)) (c.in_ok-so_far-2.ensures.joined (p ∷ []) (drop (length ps - i) ps) one
    (behaviour_kept _ _ (drop (length ps - i) ps) _ k1.trees before.so_far)) in
    record {
      keeps = keeps_more _ _ _ before.keeps k;
      so_far = next;
      parts = parts-more _ us ps i _ _ c.loop-i.alone.items c.loop-i.last.items _ _ k.trees before.parts
          (behaviour_kept _ us (p ∷ []) _ k2.trees one) next c.in_ok-push-2.ensures.items c.in_ok-push-3.ensures.items;
    }
