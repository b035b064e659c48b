use Rattle.sf_profile.proofs.Common.{◌≡◌, take, flat_map, part_code}
use Rattle.sf_profile.proofs.form.filter_code.Given as goal

abbrev pub invariant-loop-part : goal.invariant-loop-part
invariant-loop-part l = l.code.items ≡ flat_map (part_code l.plan) (take l.part-index l.plan.parts)
