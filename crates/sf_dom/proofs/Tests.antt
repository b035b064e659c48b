-- What tests of numbers are proved by.
use Rattle.sf_dom.proofs.Common.{common_steps, nat_tests}

pub ruleset test_steps = (common_steps, nat_tests)
