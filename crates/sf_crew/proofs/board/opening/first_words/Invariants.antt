use Rattle.sf_crew.proofs.Common.{◌≡◌, [], ◌∷◌, ◌++◌}
use Rattle.std.proofs.Math.ListN.{replicate}
use Rattle.sf_crew.proofs.board.opening.first_words.Given as goal

abbrev pub invariant-loop-empty : goal.invariant-loop-empty
invariant-loop-empty l = l.words.items ≡ replicate l.empty 0

abbrev pub invariant-loop-done : goal.invariant-loop-done
invariant-loop-done l = l.words.items ≡ (0 ∷ 0 ∷ 0 ∷ 0 ∷ 0 ∷ 0 ∷ []) ++ replicate l.done l.regions
