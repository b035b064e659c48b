use Rattle.sf_dom.proofs.Assumed.{learns, cant-learn}
use Rattle.sf_dom.proofs.Builds.{built-facts, none-meets-all}
use Rattle.sf_dom.proofs.laws.Confined.{confines-range, cant-confine-range, confines-masked, cant-confine-masked}
use Rattle.sf_dom.proofs.Covering.{known-back, results-decided}
use Rattle.sf_dom.proofs.laws.Forced.{forced-holds}
use Rattle.sf_dom.proofs.Sampled.{grown-takes-in, none-agreed}
use Rattle.sf_dom.proofs.RuleLaws.{forward-sound, negate-sound, reduction-sound, reduction-none, word-sound, word-none-sound, one-reduction}
use Rattle.sf_dom.proofs.Common.{IsClosed, IsClosedWord}
use Rattle.sf_dom.proofs.laws.rules_are_sound.Goals as goal

pub returns-clause-forward : goal.returns-clause-forward
returns-clause-forward c = record { operation = forward-sound; negation = negate-sound }

pub returns-clause-decided : goal.returns-clause-decided
returns-clause-decided c = results-decided

pub returns-clause-reduction : goal.returns-clause-reduction
returns-clause-reduction c = record {
  some = reduction-sound;
  none = reduction-none;
  some_word = word-sound;
  none_word = word-none-sound;
  one = one-reduction IsClosed;
  one_word = λ xs. one-reduction (IsClosedWord xs);
}

pub returns-clause-telling : goal.returns-clause-telling
returns-clause-telling c = record { forced = forced-holds; back = known-back }

pub returns-clause-learning : goal.returns-clause-learning
returns-clause-learning c = record {
  built = built-facts;
  cant_build = none-meets-all;
  learns = λ f new ns cond h below covers x. learns f ns cond h below new covers x;
  cant_learn = λ f ns cond h below x. cant-learn f ns cond h below x;
  confines = confines-range;
  cant_confine = cant-confine-range;
  confines_bits = λ f new ns w mask value h l fits inside covers x.
      confines-masked mask value fits inside f new ns w h l covers x;
  cant_confine_bits = λ f ns w mask value h l fits inside x. cant-confine-masked mask value fits inside f ns w h l x;
  grows = λ f new before ns h longer covers x. grown-takes-in f before ns h longer new covers x;
  cant_grow = λ f before ns h longer p x. none-agreed f before ns h longer p x;
}
