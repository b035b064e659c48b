use Rattle.sf_profile.proofs.Common.{◌∙◌, sym}
use Rattle.sf_profile.proofs.tree.TreeLemmas.{only_view}
use Rattle.sf_profile.proofs.tree.keys_are_among.Goals as goal

pub returns : goal.returns
returns c = c.has_only_keys.ensures ∙ sym (only_view c.args.known.now c.args.object.now.entries)
