use Rattle.sf_crew.proofs.Common.{◌≡◌, ◌+◌, All, length, vec_len, new_view, owner_view, AreThieves, IsOnBench}
use Rattle.sf_crew.proofs.benches.make_thieves.Given as goal

abbrev pub invariant-loop-given : goal.invariant-loop-given
invariant-loop-given g l = record {
  owner : owner_view l.owner ≡ new_view 0 (l.given + 1);
  count : vec_len l.new_thieves ≡ l.given;
  long : length l.new_thieves.items ≡ l.given;
  thieves : AreThieves 1 l.new_thieves.items;
  one : All (λ t. IsOnBench l.owner t) l.new_thieves.items;
}
