use Rattle.sf_profile.proofs.Common.{◌≡◌, ◌<◌, ◌∙◌, ap, inr, length, refl, sym, Some, None, arith, calls_left, rules_of}
use Rattle.sf_profile.proofs.limits.LimitLemmas.{onward}
use Rattle.sf_profile.proofs.plan.PlanLemmas.{appended}
use Rattle.sf_profile.proofs.plan.rules_in.Goals as goal

pub returns-in_default-clause-refused : goal.returns-in_default-clause-refused
returns-in_default-clause-refused c =
    let s = c.args.settings.now in
    let v = c.rule-item.result in
    let within : c.loop-rule.rule-index < length c.args.items.now = omega arith in
    let none : calls_left c.loop-rule.left (rules_of s c.args.set v) ≡ None =
    ap (calls_left c.loop-rule.left) (sym (c.deref.ensures.value ∙ c.in_ok-more.ensures)) ∙ sym c.in_default.ensures in
    inr (
      refl,
      onward s c.args.set c.args.items.now c.loop-rule.rule-index c.loop-rule.left v None within
          c.loop-rule.invariant.left (rw (← c.rule-item.is) none),
    )

pub loop-rule-preserved : goal.loop-rule-preserved
loop-rule-preserved c =
    let s = c.args.settings.now in
    let i = c.loop-rule.rule-index in
    let v = c.rule-item.result in
    let within : i < length c.args.items.now = omega arith in
    let some : calls_left c.loop-rule.left (rules_of s c.args.set v) ≡ Some c.in-Some.rest =
    ap (calls_left c.loop-rule.left) (sym (c.deref.ensures.value ∙ c.in_ok-more.ensures)) ∙ sym c.in-Some.ensures in
    record {
      so_far = appended (rules_of s c.args.set) c.args.items.now i v c.loop-rule.rules.items c.in_ok-more.more.items
          _ within c.rule-item.is c.loop-rule.invariant.so_far c.in_ok-more.ensures c.in_ok-append.ensures.items;
      left = onward s c.args.set c.args.items.now i c.loop-rule.left v (Some c.in-Some.rest) within
          c.loop-rule.invariant.left (rw (← c.rule-item.is) some);
    }
