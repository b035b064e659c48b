use Rattle.sf_dom.proofs.Common.{◌≡◌, ℕ, ◌<◌, numbers_at}
use Rattle.sf_dom.proofs.exclusions.are_same_lists.Given as goal

abbrev pub invariant-loop-word : goal.invariant-loop-word
invariant-loop-word l = (k : ℕ) → k < l.word → numbers_at l.lists k ≡ numbers_at l.others k
