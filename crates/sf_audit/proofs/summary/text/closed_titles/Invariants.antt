use Rattle.sf_audit.proofs.Common.{◌≡◌, ◌++◌, drop, map, closed_titles}
use Rattle.sf_audit.proofs.summary.text.closed_titles.Given as goal

abbrev pub invariant-loop-place : goal.invariant-loop-place
invariant-loop-place l = map (λ t. t.now) l.titles.items ++ closed_titles l.rows l.place (drop l.place l.groups)
    ≡ closed_titles l.rows 0 l.groups
