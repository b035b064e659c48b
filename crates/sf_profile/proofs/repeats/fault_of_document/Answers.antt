use Rattle.sf_profile.proofs.Common.{ap, ◌∙◌, refl, sym, subst, IfOk, value_view, AreReadBack, IsFaultOfRepeat, items_where}
use Rattle.sf_profile.specs.declared.fault.Fault.TheVariants as faults
use Rattle.sf_profile.proofs.repeats.RepeatLemmas.{rules_read_back}
use Rattle.sf_profile.proofs.repeats.fault_of_document.Goals as goal

pub fault_of_rules-requires : goal.fault_of_rules-requires
fault_of_rules-requires c =
    subst AreReadBack (sym (c.items_of.ensures ∙ ap items_where c.in-Some.ensures))
    (rules_read_back (value_view c.args.whole.now) c.requires.0 c.requires.1)

pub returns-in-Some : goal.returns-in-Some
returns-in-Some c =
    subst (λ js. IfOk c.fault_of_rules.result (λ e. IsFaultOfRepeat 1 js e))
    (c.items_of.ensures ∙ ap items_where c.in-Some.ensures) c.fault_of_rules.ensures

pub returns-in-None : goal.returns-in-None
returns-in-None c = subst (λ o. IsFaultOfRepeat 1 (items_where o) faults.Key) c.in-None.ensures refl
