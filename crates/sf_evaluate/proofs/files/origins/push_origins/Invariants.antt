use Rattle.sf_evaluate.proofs.Common.{◌≡◌, ◌++◌, List, map, Data, view, AreOriginsOf}
use Rattle.sf_evaluate.proofs.files.origins.push_origins.Given as goal

abbrev pub invariant-loop-place : goal.invariant-loop-place
invariant-loop-place l = (more : List Data) × AreOriginsOf l.path l.place more
    × (map view l.origins.items ≡ map view l.initial.origins.items ++ more)
