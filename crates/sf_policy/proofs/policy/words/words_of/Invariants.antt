use Rattle.sf_policy.proofs.Common.{◌≡◌, true, length, take, map, list_all, has_words, range_of, mask_of}
use Rattle.sf_policy.proofs.policy.words.words_of.Given as goal

abbrev pub invariant-loop-i : goal.invariant-loop-i
invariant-loop-i l = record {
  both : (length l.ranges ≡ 16) × (length l.masks ≡ 16);
  words : list_all has_words (take l.i l.entries) ≡ true;
  ranges : take l.i l.ranges ≡ map range_of (take l.i l.entries);
  masks : take l.i l.masks ≡ map mask_of (take l.i l.entries);
}
