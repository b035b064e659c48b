-- What facts say of the words of an input.
use Rattle.std.specs.Prelude.{ℕ, ◌<◌, slice_index}
use Rattle.sf_dom.specs.Common.{Input}
use Rattle.sf_dom.specs.Known.{Leaves}
use Rattle.sf_dom.specs.Facts.{FactsView, known_at, numbers_at}

-- an input agrees with facts on the words of the input: each has a number that is left for it
abbrev pub AgreesOnWords : FactsView → Input → Type 0
AgreesOnWords f d = (w : ℕ) → w < 16 → Leaves (known_at f.known w) (numbers_at f.excluded w) (slice_index d.words w)
