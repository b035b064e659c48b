use Rattle.sf_profile.proofs.Common.{◌≡◌, take, drop, flat_map, calls_left, rules_of}
use Rattle.sf_profile.proofs.plan.rules_in.Given as goal

abbrev pub invariant-loop-rule : goal.invariant-loop-rule
invariant-loop-rule l = record {
  so_far : l.rules.items ≡ flat_map (rules_of l.settings l.set) (take l.rule-index l.items);
  left : calls_left 2048 (flat_map (rules_of l.settings l.set) l.items)
      ≡ calls_left l.left (flat_map (rules_of l.settings l.set) (drop l.rule-index l.items));
}
