use Rattle.sf_profile.proofs.Common.{◌≡◌, ◌++◌, take, flat_map, round_code, places}
use Rattle.sf_profile.proofs.form.push_rounds.Given as goal

abbrev pub invariant-loop-place : goal.invariant-loop-place
invariant-loop-place l =
    l.code.items ≡ l.initial.code.items ++ flat_map (round_code l.reading l.wide l.rules) (take l.place-index places)
