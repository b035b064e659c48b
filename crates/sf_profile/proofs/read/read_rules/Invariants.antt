use Rattle.sf_profile.proofs.Common.{◌≡◌, ◌+◌, [], drop, map, view, read_rules}
use Rattle.sf_profile.proofs.read.read_rules.Given as goal

abbrev pub invariant-loop-i : goal.invariant-loop-i
invariant-loop-i l =
    read_rules l.settings 1 8192 [] (map view l.items)
    ≡ read_rules l.settings (l.i + 1) l.left l.rules.items (map view (drop l.i l.items))
