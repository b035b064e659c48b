use Rattle.sf_dom.proofs.Common.{ℕ, ◌<◌, slice_index, Has}
use Rattle.sf_dom.proofs.exclusions.are_among.Given as goal

abbrev pub invariant-loop-place : goal.invariant-loop-place
invariant-loop-place l = (k : ℕ) → k < l.place → Has l.others (slice_index l.numbers k)
