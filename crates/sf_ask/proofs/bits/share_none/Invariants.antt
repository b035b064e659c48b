use Rattle.sf_ask.proofs.Common.{◌≡◌, ℕ, ◌<◌, bit_and}
use Rattle.std.proofs.Common.{slice_index}
use Rattle.sf_ask.proofs.bits.share_none.Given as goal

abbrev pub invariant-loop-word : goal.invariant-loop-word
invariant-loop-word l = (w : ℕ) → w < l.word → bit_and (slice_index l.first w) (slice_index l.second w) ≡ 0
