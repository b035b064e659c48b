use Rattle.sf_dom.proofs.laws.OneResult.{starts-one, learns-one, learns-none, grows-one, grows-none, confines-one, confines-none}
use Rattle.sf_dom.proofs.laws.rules_have_one_result.Goals as goal

pub returns : goal.returns
returns c = record {
  started = starts-one;
  learnt = learns-one;
  learns_not = learns-none;
  grown = grows-one;
  grows_not = grows-none;
  confined = confines-one;
  confines_not = confines-none;
}
