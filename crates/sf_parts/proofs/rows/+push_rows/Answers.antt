use Rattle.sf_parts.proofs.rows.RowLemmas.{rows-by, rows-step, step-over}
use Rattle.sf_parts.proofs.Common.{rows_under, nat_tests, common_steps, ◌≡◌, ◌+◌, ◌-◌, ◌++◌, ◌∷◌, [], length, get_or, map, refl, ap, ◌∙◌, arith, err_from_is_err_and, tree_at, StoredPart, part_seen, ROWS, TESTS}
use Rattle.sf_parts.proofs.rows.+push_rows.Goals as goal

pub returns-in-Number-clause-rows : goal.returns-in-Number-clause-rows
unfolding rows_under
returns-in-Number-clause-rows t c = rw c.in-Number.ensures.tree (grind arith)

pub returns-then-words-eq0-clause-rows : goal.returns-then-words-eq0-clause-rows
returns-then-words-eq0-clause-rows t c =
    rw (c.in-Choice.ensures.tree, rows-by) (grind (arith, nat_tests, common_steps))

pub returns-then-variable-words-clause-rows : goal.returns-then-variable-words-clause-rows
returns-then-variable-words-clause-rows t c = rw (c.in-Choice.ensures.tree, rows-by) (grind (arith, nat_tests))

pub loop-part-preserved : goal.loop-part-preserved
loop-part-preserved t c =
    let w = c.args.words in
    let ts = c.args.store.now.trees in
    let cs = c.args.conditions.now.items in
    let part : StoredPart = record { form = c.part.inside.form; behind = c.part.inside.behind } in
    let is : part ≡ get_or c.deref-part-items.result.now c.loop-part.part-index part
    = rw (← c.part.view_is) at c.part-item.is in
    let pushed : c.push.new.self.items ≡ cs ++ record { word = w.word; form = c.part.inside.form } ∷ []
    = grind (arith, c.in_ok-push.ensures.items, c.loop-part.invariant.conditions, c.in_ok-condition.ensures) in
    record {
      conditions = grind (arith, common_steps, pushed);
      rows = rows-step w.apart w.hidden (w.left - 1) w.word (w.word + 1) c.loop-part.part-index ts cs
          c.push.new.self.items c.deref-part-items.result.now part _ c.args.rows.now.items c.loop-part.rows.items
          c.push_rows-in-loop-part.new.rows.items (omega arith) is (omega arith)
          (ap (map (part_seen ts)) c.deref-part-items.ensures.value ∙ c.in_ok-parts.ensures.parts)
          c.loop-part.invariant.rows pushed c.in_ok-push_rows.ensures.rows;
    }

pub returns-clause-rows : goal.returns-clause-rows
returns-clause-rows t c = rw (c.in-Choice.ensures.tree, rows-by) (grind (arith, nat_tests, common_steps))

pub returns-in-Number-clause-spent : goal.returns-in-Number-clause-spent
unfolding rows_under
returns-in-Number-clause-spent t c = rw c.in-Number.ensures.tree (grind arith)

pub returns-then-variable-words-clause-spent : goal.returns-then-variable-words-clause-spent
returns-then-variable-words-clause-spent t c = rw (c.in-Choice.ensures.tree, rows-by) (grind (arith, nat_tests))

pub returns-in_err-parts-clause-spent : goal.returns-in_err-parts-clause-spent
returns-in_err-parts-clause-spent t c =
    let p = err_from_is_err_and c.from_residual.result c.from_residual.ensures.1 in
    rw (p.1, p.2, c.in-Choice.ensures.tree) (grind (arith, c.in_err-parts.ensures.spent))

pub returns-in_err-push_rows-clause-spent : goal.returns-in_err-push_rows-clause-spent
returns-in_err-push_rows-clause-spent t c =
    let w = c.args.words in
    let ts = c.args.store.now.trees in
    let cs = c.args.conditions.now.items in
    let part : StoredPart = record { form = c.part.inside.form; behind = c.part.inside.behind } in
    let is : part ≡ get_or c.deref-part-items.result.now c.loop-part.part-index part
    = rw (← c.part.view_is) at c.part-item.is in
    let pushed : c.push.new.self.items ≡ cs ++ record { word = w.word; form = c.part.inside.form } ∷ []
    = grind (arith, c.in_ok-push.ensures.items, c.loop-part.invariant.conditions, c.in_ok-condition.ensures) in
    let p = err_from_is_err_and c.from_residual-in_err-push_rows.result
    c.from_residual-in_err-push_rows.ensures.1 in
    rw (p.1, p.2) (λ e o. step-over ROWS TESTS (length c.args.rows.now.items) w.apart w.hidden w.left (w.left - 1)
    w.word (w.word + 1) c.in-Choice.variable c.loop-part.part-index ts (tree_at ts c.args.id) _ _ cs
    c.push.new.self.items c.deref-part-items.result.now part c.args.rows.now.items c.loop-part.rows.items (omega arith)
    (omega arith) c.in-Choice.ensures.tree c.if-variable-words.false (omega arith) is
    (ap (map (part_seen ts)) c.deref-part-items.ensures.value ∙ c.in_ok-parts.ensures.parts)
    c.loop-part.invariant.rows refl pushed (c.in_err-push_rows.ensures.spent e) o)
