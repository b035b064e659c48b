use Rattle.sf_policy.proofs.Common.{rules}
use Rattle.toml_parser.specs.Reading.{key_view}
use Rattle.sf_policy.specs.Places.{with_value}
use Rattle.sf_policy.proofs.places.Reading.step.Goals as goal

pub returns-then-first-eq91 : goal.returns-then-first-eq91
returns-then-first-eq91 c = λ found.
    with_value (key_view c.in-Some.key) c.in-Some.ensures.0 (search rules) (search rules)
    (c.take_key-found.ensures found)

pub returns-in-Some : goal.returns-in-Some
returns-in-Some c = λ found.
    with_value (key_view c.in-Some.key) c.in-Some.ensures.0 (search rules) (search rules)
    (c.take_key-found.ensures found)
