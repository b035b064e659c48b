use Rattle.sf_policy.proofs.Common.{◌≡◌, map, string_bytes, take, view, text_or_empty}
use Rattle.sf_policy.proofs.policy.groups.strings_of.Given as goal

abbrev pub invariant-loop-value : goal.invariant-loop-value
invariant-loop-value l =
    map string_bytes l.texts.items ≡ map (λ v. text_or_empty (view v)) (take l.value-index l.items)
