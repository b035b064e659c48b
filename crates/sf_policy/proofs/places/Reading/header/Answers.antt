use Rattle.sf_policy.proofs.Common.{rules}
use Rattle.toml_parser.specs.Reading.{key_view}
use Rattle.sf_policy.proofs.places.Reading.header.Goals as goal

pub returns : goal.returns
returns c = λ found. record {
  parts = key_view c.in_ok-key.key;
  rest = c.in_ok-key.rest.now;
  read = search rules;
  wanted = search rules;
}
