use Rattle.sf_profile.proofs.Common.{◌+◌, items_view, Fault, AreReadBack, IsFaultOfRepeat}
use Rattle.sf_profile.proofs.repeats.RepeatLemmas.{from}
use Rattle.sf_profile.proofs.repeats.fault_of_rules.Given as goal

abbrev pub invariant-loop-i : goal.invariant-loop-i
invariant-loop-i l =
    AreReadBack (from l.items l.i)
    × ((e : Fault) → IsFaultOfRepeat (l.i + 1) (from l.items l.i) e → IsFaultOfRepeat 1 (items_view l.items) e)
