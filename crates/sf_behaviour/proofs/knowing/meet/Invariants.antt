use Rattle.sf_behaviour.proofs.Common.{◌≡◌, length, IsLess}
use Rattle.sf_behaviour.proofs.knowing.meet.Given as goal

abbrev pub invariant-loop-i : goal.invariant-loop-i
invariant-loop-i l = record {
  count : length l.both ≡ 18;
  first : IsLess l.both l.a;
  second : IsLess l.both l.b;
}
