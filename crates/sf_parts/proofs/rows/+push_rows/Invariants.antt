use Rattle.sf_parts.proofs.Common.{◌≡◌, ◌-◌, ◌++◌, ◌==◌, take, flat_map, tree_at, parts_in}
use Rattle.sf_parts.proofs.rows.RowLemmas.{rows_behind}
use Rattle.sf_parts.proofs.rows.+push_rows.Given as goal

abbrev pub decreases-push_rows : goal.decreases-push_rows
decreases-push_rows l = l.words.left

abbrev pub invariant-loop-part : goal.invariant-loop-part
invariant-loop-part l = record {
  conditions : l.conditions.items ≡ l.fn.conditions.items;
  rows : l.rows.items
      ≡ l.fn.rows.items
      ++ flat_map (rows_behind l.words.apart l.words.hidden (l.words.left - 1) l.words.word l.fn.conditions.items)
      (take l.part-index (parts_in l.words.word (l.words.word == l.words.apart) (tree_at l.store.trees l.id)));
}
