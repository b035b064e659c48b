-- Names by the runs of false in them.
use Rattle.sf_piece.specs.Common.{Reverse}
use Rattle.std.specs.Prelude.{ℕ, false, true, Bool, List, [], ◌∷◌, ◌++◌, replicate}

-- the name that these runs spell: for each of them that many falses and then a true, and at the end `rest` falses
abbrev pub spelled : List (Reverse ℕ) → ℕ → List Bool
spelled [] rest = replicate rest false
spelled (run ∷ runs) rest = replicate run.0 false ++ true ∷ spelled runs rest
