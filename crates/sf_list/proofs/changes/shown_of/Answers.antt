use Rattle.sf_list.proofs.Common.{tree_at, behaviour_kept, answers_tree}
use Rattle.sf_list.proofs.changes.shown_of.Goals as goal

pub returns-clause-changes : goal.returns-clause-changes
returns-clause-changes c =
    let s1 = c.behaviour.new.store in
    let s2 = c.behaviour-2.new.store in
    let s3 = c.changes_between.new.store in
    let canonical = c.node-node.ensures.lawful.canonical in
    let id = c.in_ok-changed.changed in
    let is = c.in_ok-changed.ensures.values in
    record {
      before = tree_at s2.trees c.in_ok-before.before;
      after = tree_at s2.trees c.in_ok-after.after;
      tree = tree_at s3.trees id;
      was = answers_tree c.args.stacks.0.now s2.trees c.in_ok-before.before canonical
          (behaviour_kept s1.trees s2.trees c.args.stacks.0.now c.in_ok-before.before c.in_ok-after.ensures.keeps.trees
          c.in_ok-before.ensures.answers);
      is = answers_tree c.args.stacks.1.now s2.trees c.in_ok-after.after canonical c.in_ok-after.ensures.answers;
      changed = record {
        ordered = c.in_ok-changed.ensures.lawful.canonical.ordered id is.within;
        reduced = c.in_ok-changed.ensures.lawful.canonical.reduced id is.within;
        values = is.values;
      };
      shown_is = c.in_ok-shown.ensures.shown;
    }
