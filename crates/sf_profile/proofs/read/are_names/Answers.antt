use Rattle.sf_profile.proofs.Common.{rules, tests, sym, ◌∙◌, YieldsList-from_slice, all_from_yields_List, view, is_call_name, text_in}
use Rattle.sf_profile.proofs.tree.TreeLemmas.{all_text}
use Rattle.sf_profile.proofs.read.are_names.Goals as goal

pub returns : goal.returns
returns c =
    all_from_yields_List (λ v. is_call_name (text_in (view v))) _ _ _ c.all.ensures.ran
    (YieldsList-from_slice c.args.items.now cc) (λ x b q k. search (rules, tests))
    ∙ sym (all_text is_call_name c.args.items.now)
