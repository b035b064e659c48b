use Rattle.sf_rows.proofs.Common.{Leaf, ◌+◌, ◌∙◌, Bool, ap, arith, sym, take, ◌&&◌, ◌||◌, list_any, list_any_more, Bits, keeps_more, NamesData, word_number, is_call_number, ◌==◌}
use Rattle.sf_rows.proofs.others.OtherLemmas.{chosen-diagram, diagram-kept, named-step, tree-diagram}
use Rattle.sf_rows.proofs.others.named_calls.Goals as goal

-- a set has the call of an input
abbrev has_call : Bits → NamesData → Bool
has_call b n = (n.arch == word_number 18 b) && list_any (is_call_number (word_number 19 b)) n.calls

pub loop-names-init : goal.loop-names-init
loop-names-init c = record {
  keeps = c.in_ok-named.ensures.keeps;
  values = tree-diagram _ _ (Leaf 0) c.in_ok-named.ensures.within c.in_ok-named.ensures.tree;
}

pub loop-names-preserved : goal.loop-names-preserved
loop-names-preserved c =
    let n = c.names-item.result in
    let sets = c.args.sets.now in
    let i = c.loop-names.names-index in
    record {
      keeps = keeps_more _ _ _ c.loop-names.invariant.keeps (keeps_more _ _ _ c.in_ok-of_set.ensures.keeps
          (keeps_more _ _ _ c.in_ok-one.ensures.keeps c.in_ok-named-2.ensures.keeps));
      values = chosen-diagram (diagram-kept c.in_ok-one.ensures.keeps.trees c.in_ok-of_set.ensures.values)
          (tree-diagram c.leaf-in-loop-names.new.self.trees _ (Leaf 1) c.in_ok-one.ensures.within
          c.in_ok-one.ensures.tree)
          (diagram-kept c.in_ok-one.ensures.keeps.trees
          (diagram-kept c.in_ok-of_set.ensures.keeps.trees c.loop-names.invariant.values))
          c.in_ok-named-2.ensures.within c.in_ok-named-2.ensures.chosen
          (λ b. named-step (has_call b n) (list_any (has_call b) (take i sets))
          (list_any (has_call b) (take (i + 1) sets))
          (list_any_more (has_call b) sets i n (omega arith)
          ∙ ap (λ (m : NamesData). list_any (has_call b) (take i sets) || has_call b m) (sym c.names-item.is)));
    }
