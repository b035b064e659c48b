use Rattle.sf_profile.proofs.Common.{rules, tests, sym, ◌∙◌, YieldsList-from_slice, all_from_yields_List, view, is_map_item}
use Rattle.sf_profile.proofs.tree.TreeLemmas.{all_entries}
use Rattle.sf_profile.proofs.read.are_map_items.Goals as goal

pub returns : goal.returns
returns c =
    all_from_yields_List (λ v. is_map_item (view v)) _ _ _ c.all.ensures.ran
    (YieldsList-from_slice c.args.items.now cc) (λ x b q k. search (rules, tests))
    ∙ sym (all_entries is_map_item c.args.items.now)
