use Rattle.sf_profile.proofs.Common.{ap, ◌∙◌, sym, subst, value_view, AreReadBack, items_where}
use Rattle.sf_profile.proofs.repeats.RepeatLemmas.{rules_read_back}
use Rattle.sf_profile.proofs.repeated.key_in_document.Goals as goal

pub key_in_rules-requires : goal.key_in_rules-requires
key_in_rules-requires c =
    subst AreReadBack (sym (c.items_of.ensures ∙ ap items_where c.in-Some.ensures))
    (rules_read_back (value_view c.args.whole.now) c.requires.0 c.requires.1)
