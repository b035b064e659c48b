use Rattle.sf_needed.proofs.Common.{◌≡◌, ◌+◌, map, take, view, count}
use Rattle.sf_needed.proofs.document.kept_documents.Given as goal

abbrev pub invariant-loop-place : goal.invariant-loop-place
invariant-loop-place l = map view l.documents.items ≡ map (λ p. count (p + 1)) (take l.place-index l.kept)
