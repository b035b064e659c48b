use Rattle.sf_dom.proofs.Common.{◌≡◌, length, take}
use Rattle.sf_dom.proofs.exclusions.copy_all.Given as goal

abbrev pub invariant-loop-word : goal.invariant-loop-word
invariant-loop-word l = record { count : length l.copies ≡ 16; same : take l.word l.copies ≡ take l.word l.lists }
