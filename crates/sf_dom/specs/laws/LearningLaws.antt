-- What the answer of a call on facts says of inputs, by the laws of the rules.
use Rattle.std.specs.Prelude.{◌≡◌, ℕ, ◌<◌, ◌^◌, bit_and, List, length, Bool, true, false, MatchBool, Option, Some, None, IfSome}
use Rattle.sf_dom.specs.Common.{IsInput, Input, Test, value_of, Node}
use Rattle.sf_dom.specs.Facts.{FactsView, known_at, Agrees, Covers, NoInput, HasIn, LiesIn, HasMasked, ConfinesWord}
use Rattle.sf_dom.specs.Learning.{TakesInBy, CantTakeInBy}
use Rattle.sf_dom.specs.Propagation.{TestGives}
use Rattle.sf_dom.specs.Rules.{between, masked, IsClosedAt}
use Rattle.sf_dom.specs.SoundRules.{IsLearningSound, IsTellingSound}
use Rattle.sf_dom.specs.Telling.{IsForcedBy}

-- facts that were told to keep an interval of a word
pub confined-by : IsLearningSound → (b : Bool) (f new : FactsView) (ns : List Node) (w low high : ℕ) → Covers f ns
    → w < 16 → Covers new ns
    → MatchBool b (TakesInBy f new ns w (between low high)) (CantTakeInBy f ns w (between low high))
    → MatchBool b (ConfinesWord f new ns w (LiesIn low high)) (NoInput f ns (HasIn w (LiesIn low high)))
confined-by laws true f new ns w low high h l covers x = laws.confines f new ns w low high h l covers x
confined-by laws false f new ns w low high h l covers x = laws.cant_confine f ns w low high h l x

-- facts that were told to keep bits of a word
pub masked-by : IsLearningSound → (b : Bool) (f new : FactsView) (ns : List Node) (w mask value : ℕ) → Covers f ns
    → w < 16 → mask < 2 ^ 32 → bit_and value mask ≡ value → Covers new ns
    → MatchBool b (TakesInBy f new ns w (masked mask value)) (CantTakeInBy f ns w (masked mask value))
    → MatchBool b (ConfinesWord f new ns w (HasMasked mask value)) (NoInput f ns (HasIn w (HasMasked mask value)))
masked-by laws true f new ns w mask value h l fits inside covers x =
    laws.confines_bits f new ns w mask value h l fits inside covers x
masked-by laws false f new ns w mask value h l fits inside covers x =
    laws.cant_confine_bits f ns w mask value h l fits inside x

-- a test that was told
pub told-by : IsTellingSound → (o : Option Bool) (f : FactsView) (ns : List Node) (i : ℕ) (test : Test) (number : ℕ)
    → Covers f ns → i < length ns → number < 2 ^ 32
    → IfSome o (λ b. IsForcedBy (IsClosedAt f.excluded i) (known_at f.known i) test number b)
    → IfSome o (λ b. (d : Input) → IsInput d → Agrees f ns d → TestGives test (value_of ns d i) number b)
told-by laws None f ns i test number h l fits x = x
told-by laws (Some b) f ns i test number h l fits x = laws.forced f ns i test number b h l fits x
