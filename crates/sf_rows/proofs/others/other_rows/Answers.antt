use Rattle.sf_rows.proofs.Common.{◌∙◌, sym, tree_at}
use Rattle.sf_rows.proofs.others.OtherLemmas.{others-all, others-none}
use Rattle.sf_rows.proofs.others.other_rows.Goals as goal

pub returns-then-not-is_empty-clause-rows : goal.returns-then-not-is_empty-clause-rows
returns-then-not-is_empty-clause-rows c =
    others-none c.args.wanted.now c.args.subject (tree_at c.args.store.now.trees c.args.id) c.args.sets.now _
    (sym c.is_empty.ensures ∙ c.if-not-is_empty.true) c.new.ensures.items

pub returns-clause-rows : goal.returns-clause-rows
returns-clause-rows c =
    let after = c.without_named.new.store in
    let rest = c.in_ok-rest.rest in
    let is = rw c.hidden_number.ensures at c.in_ok-rest.ensures.values in
    let canonical = c.in_ok-rest.ensures.lawful.canonical in
    others-all c.args.wanted.now c.args.subject (tree_at c.args.store.now.trees c.args.id) (tree_at after.trees rest)
    c.args.sets.now _ (sym c.is_empty.ensures ∙ c.if-not-is_empty.false) (record {
      ordered = canonical.ordered rest is.within;
      reduced = canonical.reduced rest is.within;
      values = is.values;
    }) c.in_ok-rows.ensures
