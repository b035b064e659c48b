use Rattle.sf_relations.proofs.Common.{◌+◌, ◌-◌, ◌<◌, ℕ, suc, List, [], ◌∷◌, length, drop, refl, sym, subst, arith, slice_index, slice_index_or, All-push, All-weaker, Insn, keeps_more, IsBehaviour, drops, keeps, filters_at, left_without, behaviour_kept}
use Rattle.sf_relations.proofs.findings.FindingLemmas.{alike, filters-more, kept-more}
use Rattle.sf_relations.proofs.parts.PartLemmas.{of-all, of-behind, of-one, parts-kept}
use Rattle.sf_relations.proofs.needs.keep_each.Goals as goal
use Rattle.sf_relations.proofs.needs.keep_each.Goals.{In_ok-others}

-- the diagrams that are compared: of what is left without the filter, and of the whole stack
others : (c : In_ok-others) → IsBehaviour
    (left_without c.args.programs.now c.loop-place.kept.items c.loop-place.place) c.join.new.store.trees
    c.in_ok-others.others
others c =
    let ps = c.args.programs.now in
    c.in_ok-others.ensures.joined (filters_at ps c.loop-place.kept.items) (drop (suc c.loop-place.place) ps)
    c.loop-place.invariant.older
    (of-behind _ ps c.args.alone.now _ c.loop-place.place c.loop-place.invariant.parts (omega arith))

whole : (c : In_ok-others) → IsBehaviour c.args.programs.now c.join.new.store.trees
    (slice_index c.args.last.now (length c.args.programs.now))
whole c =
    behaviour_kept _ _ c.args.programs.now _ c.in_ok-others.ensures.keeps.trees
    (of-all _ c.args.programs.now c.args.alone.now _ c.loop-place.invariant.parts)

-- the filter is dropped
pub loop-place-preserved-then-others-last : goal.loop-place-preserved-then-others-last
loop-place-preserved-then-others-last c =
    let ps = c.args.programs.now in
    let place = c.loop-place.place in
    let kept = c.loop-place.kept.items in
    let before = c.loop-place.invariant in
    let k = c.in_ok-others.ensures.keeps in
    let here = (goal.at.loop-place-preserved-then-others-last c).In_ok-others in
    record {
      keeps = keeps_more _ _ _ before.keeps k;
      parts = parts-kept _ _ ps (length ps) c.args.alone.now _ k.trees before.parts;
      older = behaviour_kept _ _ (filters_at ps kept) _ k.trees before.older;
      below = All-weaker (λ (p : ℕ). p < place) (λ (p : ℕ). p < place + 1) (λ p l. omega arith) kept before.below;
      kept = kept-more ps place kept kept before.kept (drops refl (alike c.join.new.store.trees _ ps
          (left_without ps kept place) (whole here)
          (subst (λ (n : ℕ). IsBehaviour (left_without ps kept place) c.join.new.store.trees n) c.if-others-last.true
          (others here))));
    }

-- the filter is kept
pub loop-place-preserved : goal.loop-place-preserved
loop-place-preserved c =
    let ps = c.args.programs.now in
    let place = c.loop-place.place in
    let kept = c.loop-place.kept.items in
    let before = c.loop-place.invariant in
    let k1 = c.in_ok-others.ensures.keeps.trees in
    let k2 = keeps_more _ _ _ c.in_ok-others.ensures.keeps c.in_ok-older.ensures.keeps in
    let items = c.in_ok-push.ensures.items in
    let here = (goal.at.loop-place-preserved c).In_ok-others in
    record {
      keeps = keeps_more _ _ _ before.keeps k2;
      parts = parts-kept _ _ ps (length ps) c.args.alone.now _ k2.trees before.parts;
      older = subst (λ (qs : List (List Insn)). IsBehaviour qs c.join-in-loop-place.new.store.trees c.in_ok-older.older)
          (filters-more ps kept _ place items) (c.in_ok-older.ensures.joined (filters_at ps kept) _
          (behaviour_kept _ _ (filters_at ps kept) _ k1 before.older) (behaviour_kept _ _
          (slice_index_or ps place [] ∷ []) _ k1 (of-one _ ps _ c.args.last.now place before.parts (omega arith))));
      below = rw items (All-push (λ (n : ℕ). n < place + 1) kept place
          (All-weaker (λ (n : ℕ). n < place) (λ (n : ℕ). n < place + 1) (λ n l. omega arith) kept before.below)
          (omega arith));
      kept = kept-more ps place kept _ before.kept
          (keeps items (λ same. c.if-others-last.false (sym (c.equal_behaviours_make_equal_ids.ensures ps
          (left_without ps kept place) c.join.new.store.trees _ c.in_ok-others.others
          c.in_ok-others.ensures.lawful.canonical (whole here) (others here)
          (λ d a input h. let both = same d a input in both.0 h)))));
    }
