use Rattle.sf_list.proofs.Common.{answers_tree, tree_at}
use Rattle.sf_list.proofs.listing.listing_of.Goals as goal

pub returns-clause-listed : goal.returns-clause-listed
returns-clause-listed c =
    let before = c.behaviour.new.store in
    let id = c.in_ok-answers.answers in record {
      tree = tree_at before.trees id;
      answers = answers_tree c.args.stack before.trees id c.node-node.ensures.lawful.canonical
          (rw c.programs.ensures.same at c.in_ok-answers.ensures.answers);
      shown = c.in_ok-shown.ensures.shown;
    }
