use Rattle.sf_crew.proofs.Common.{◌≡◌, length, slots_items, LeastIs}
use Rattle.sf_crew.proofs.board.closing.least_places.Given as goal

abbrev pub invariant-loop-q : goal.invariant-loop-q
invariant-loop-q l = record {
  long : length l.least ≡ 256;
  is : LeastIs (slots_items l.closed.words) l.regions l.q l.least;
}
