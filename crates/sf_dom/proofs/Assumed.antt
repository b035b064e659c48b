-- What facts promise of the inputs that agree, where they learn a condition or take in more of a word.
use Rattle.sf_dom.proofs.Common.{◌≡◌, ℕ, ◌<◌, ◌^◌, List, length, arith, refl, sym, ap, ◌∙◌, inl, inr, slice_index, Some, None, Input, IsCondBelow, node_at, value_of, passes-met, value-constant, Cond, Node, Const, Word, Known, Has, Admits, IsNarrower, IsDecided, known_at, excluded_of, FactsView, AgreesWith, Agrees, Covers, KeepsInputs, KeepsOnly, NoInput, HasIn, ConfinesWord, IsPlainCondition, IsWordOrConst, DecidesTest, narrower-admits, some-such, value-word, decided-admits, closed-consistent, constant-known, assumed_of, AreExcludedBy, ConditionGives, LearnsBy, CantLearn, MoreGives, TakesInBy, CantTakeInBy, IsNarrowed, Meets, Learns, met, common_steps, IsPlainTest, ◌⊎◌, ◌≢◌, Equal, false}
use Rattle.sf_dom.proofs.ConditionSteps.{condition-lawful, condition-known, condition-rest, more-lawful, more-rest, more-known}
use Rattle.sf_dom.proofs.Covering.{covers-closed}
use Rattle.sf_dom.proofs.Excluding.{excluding-keeps}
use Rattle.sf_dom.proofs.Lawful.{IsLawful}
use Rattle.sf_dom.proofs.Sampled.{agrees-back, agrees-with-fewer, admits-word}
use Rattle.sf_dom.proofs.Steps.{still-fixed}
use Rattle.sf_dom.proofs.TestLaws.{test-exact}

-- Facts of a pool, and a condition on two of its nodes.
module _ (f : FactsView) (ns : List Node) (cond : Cond) (h : Covers f ns) (below : IsCondBelow (length ns) cond) where
  -- what its test says of its first node is known afterwards
  told-known : (new : List Known) (ex : List ℕ) → ConditionGives f.known ex ns cond (Some new)
      → IsNarrower (assumed_of f.known cond).node (known_at new cond.node.0)
  told-known new ex g =
      condition-known f.known ex ns cond h.pool (covers-closed f ns h) below (Some new) g

  -- where both nodes have only one number, these meet the condition
  decides : (new : List Known) (ex : List ℕ) → ConditionGives f.known ex ns cond (Some new) → DecidesTest f cond
  decides new ex g dv dw =
      let closed = covers-closed f ns h in
      let all = (condition-lawful f.known ex ns cond h.pool closed below).narrowed (Some new) g in
      let v : Known = known_at f.known cond.node.0 in let left : Known = known_at new cond.node.0 in
      let n = all.narrower cond.node.0 (omega (arith, h.count, below.0)) in
      let cv = closed.each cond.node.0 below.0 in let cp = all.closed.each cond.node.0 below.0 in
      let low : left.low ≡ v.low = omega (arith, n.low, n.high, cp.ordered, dv) in
      let high : left.high ≡ v.low = omega (arith, n.low, n.high, cp.ordered, dv) in
      test-exact cond.test cond.sense v (known_at f.known cond.other.0) v.low cv (closed.each cond.other.0 below.1) dw
      (inr dv) (decided-admits v v.low (closed-consistent v cv) refl (sym dv))
      (narrower-admits (assumed_of f.known cond).node left v.low (told-known new ex g)
      (decided-admits left v.low (closed-consistent left cp) low high))

  -- a plain condition is met by each input that agrees afterwards
  plain-holds : (new : List Known) (ex : List ℕ) → ConditionGives f.known ex ns cond (Some new)
      → AreExcludedBy f.known f.excluded ex ns cond → IsPlainCondition ns cond → length new ≡ length ns → (d : Input)
      → AgreesWith f.known f.excluded ns d → AgreesWith new ex ns d → Meets ns cond d
  plain-holds new ex g out plain count d before after =
      let closed = covers-closed f ns h in
      let v : Known = known_at f.known cond.node.0 in
      let w : Known = known_at f.known cond.other.0 in
      let x : ℕ = value_of ns d cond.node.0 in
      let lv : cond.node.0 < length f.known = omega (arith, h.count, below.0) in
      let now = after cond.node.0 (omega (arith, below.0)) in
      let number = constant-known f.known f.excluded ns cond.other.0 plain.number
      (h.rest cond.other.0 below.1) plain.other in
      let dw : IsDecided w = omega (arith, number.0, number.1) in
      let value : value_of ns d cond.other.0 ≡ plain.number
      = value-constant ns d cond.other.0 plain.number h.pool below.1 plain.other in
      let a : Known = (assumed_of f.known cond).node in
      let left : Admits a x = narrower-admits a (known_at new cond.node.0) x (told-known new ex g) now.admitted in
      let own = (before cond.node.0 lv).admitted in
      passes-met ns d cond (rw (value, ← number.0) (test-exact cond.test cond.sense v w x
      (closed.each cond.node.0 below.0) (closed.each cond.other.0 below.1) dw
      (how (node_at ns cond.node.0) refl plain.node now.kept dw number.0) own left))
    where
      how : (n : Node) → node_at ns cond.node.0 ≡ n → IsWordOrConst n
          → ¬ Has (excluded_of ex n) (value_of ns d cond.node.0) → IsDecided (known_at f.known cond.other.0)
          → (known_at f.known cond.other.0).low ≡ plain.number
          → (IsPlainTest cond.test (known_at f.known cond.other.0).low × (cond.test ≡ Equal → cond.sense ≡ false
          → value_of ns d cond.node.0 ≢ (known_at f.known cond.other.0).low)) ⊎ IsDecided (known_at f.known cond.node.0)
      how (Word i) e k kept dw is =
          inl (
            rw is plain.test,
            (λ et es same. kept (rw same (out.more i (known_at f.known cond.other.0).low (et, es, inl (e, dw, refl))))),
          )
      how (Const n) e k kept dw is =
          let number = constant-known f.known f.excluded ns cond.node.0 n (h.rest cond.node.0 below.0) e in
          inr (omega (arith, number.0, number.1))
      how n e k kept dw is = elim k [ ]

  -- what they know once they learn it by the rules
  learns-narrowed : (new : FactsView) → LearnsBy f new ns cond → IsNarrowed f.known new.known new.excluded ns
  learns-narrowed new g = (condition-lawful f.known new.excluded ns cond h.pool
      (covers-closed f ns h) below).narrowed (Some new.known) g.known

  pub learns-covers : (new : FactsView) → LearnsBy f new ns cond → Covers new ns
  learns-covers new by =
      let n = learns-narrowed new by in
      record {
        pool = h.pool;
        count = n.closed.count;
        words = by.excluded.words ∙ h.words;
        rest = condition-rest f.known new.excluded ns cond (Some new.known) by.known;
        fixed = rw by.variables
            (still-fixed f.variables f.known new.known new.excluded ns h.pool (covers-closed f ns h) n h.fixed);
      }

  -- an input that agreed and meets the condition agrees then
  pub learns-keeps : (new : FactsView) → LearnsBy f new ns cond → KeepsInputs f new ns (Meets ns cond)
  unfolding Agrees
  learns-keeps new g d i a m =
      let closed = covers-closed f ns h in
      (condition-lawful f.known new.excluded ns cond h.pool closed below).sound d i m
      (excluding-keeps f.known f.excluded new.excluded ns cond d h.pool h.count below g.excluded m a) (Some new.known)
      g.known

  -- and where the condition is plain, only such an input
  pub learns-only : (new : FactsView) → LearnsBy f new ns cond → IsPlainCondition ns cond
      → KeepsOnly f new ns (Meets ns cond)
  unfolding Agrees
  learns-only new g plain d i a =
      let count = h.count in let n = learns-narrowed new g in let after = n.closed.count in
      let before = agrees-with-fewer f.known f.excluded new.excluded ns d g.excluded.kept
      (agrees-back f.known new.known new.excluded ns d (omega arith) n.narrower a) in
      (before, plain-holds new.known new.excluded g.known g.excluded plain after d before a)

  -- where they can't learn it by the rules, no input that agrees meets the condition
  pub cant-learn : CantLearn f ns cond → NoInput f ns (Meets ns cond)
  unfolding Agrees
  cant-learn c d i a m =
      (condition-lawful f.known c.sets ns cond h.pool (covers-closed f ns h) below).sound d i m
      (excluding-keeps f.known f.excluded c.sets ns cond d h.pool h.count below c.excluded m a) None c.none

  -- facts that learn it by the rules learn it
  pub learns : (new : FactsView) → Covers new ns → LearnsBy f new ns cond → Learns f new ns cond
  learns new covers g = record {
    covers = covers;
    narrower = record { known = (learns-narrowed new g).narrower; excluded = g.excluded.kept };
    keeps = learns-keeps new g;
    only = learns-only new g;
    some = λ plain. some-such f new ns (Meets ns cond) covers (learns-only new g plain);
    decided = decides new.known new.excluded g.known;
  }

-- Facts of a pool take in more of a word.
module _ (f : FactsView) (ns : List Node) (w : ℕ) (more : Known) (h : Covers f ns) (l : w < 16)
    (fits : more.zeros < 2 ^ 32) where
  lawful : IsLawful (λ d. Admits more (value_of ns d w)) f.known f.excluded ns (MoreGives f.known f.excluded ns w more)
  lawful = more-lawful f.known f.excluded ns w more h.pool (covers-closed f ns h) (omega arith) fits

  pub confines-covers : (new : FactsView) → TakesInBy f new ns w more → Covers new ns
  confines-covers new by =
      let n = lawful.narrowed (Some new.known) by.known in
      record {
        pool = h.pool;
        count = n.closed.count;
        words = ap length by.excluded ∙ h.words;
        rest = rw by.excluded (more-rest f.known f.excluded ns w more (Some new.known) by.known);
        fixed = rw by.variables
            (still-fixed f.variables f.known new.known f.excluded ns h.pool (covers-closed f ns h) n h.fixed);
      }

  pub confines : (new : FactsView) → Covers new ns → TakesInBy f new ns w more → ConfinesWord f new ns w (Admits more)
  unfolding Agrees
  confines new covers g =
      let n = lawful.narrowed (Some new.known) g.known in
      let after = n.closed.count in
      let taken = more-known f.known f.excluded ns w more h.pool (covers-closed f ns h) (omega arith) (Some new.known)
      g.known in
      let only : KeepsOnly f new ns (HasIn w (Admits more)) = λ d i a. (
        agrees-back f.known new.known f.excluded ns d (omega arith) n.narrower (rw g.excluded at a),
        admits-word new.known new.excluded ns d w more h.pool l after taken a,
      ) in
      record {
        covers = covers;
        narrower = record { known = n.narrower; excluded = rw g.excluded (λ v m c. c) };
        keeps = λ d i a m. rw g.excluded
            (lawful.sound d i (rw (value-word ns d w h.pool l) m) a (Some new.known) g.known);
        only = only;
        some = some-such f new ns (HasIn w (Admits more)) covers only;
        numbers = λ v n k s a e. narrower-admits more (known_at new.known w) n taken (rw e at a);
      }

  pub cant-confine : CantTakeInBy f ns w more → NoInput f ns (HasIn w (Admits more))
  unfolding Agrees
  cant-confine g d i a m = lawful.sound d i (rw (value-word ns d w h.pool l) m) a None g

-- Facts that are confined by one property of a word's numbers are confined by another one that is true of the same
-- numbers.
module _ (old : FactsView) (ns : List Node) (w : ℕ) (kind other : ℕ → Type 0)
    (from : (n : ℕ) → n < 2 ^ 32 → other n → kind n) where
  pub confines-as : (new : FactsView) → ((n : ℕ) → n < 2 ^ 32 → kind n → other n) → ConfinesWord old new ns w kind
      → ConfinesWord old new ns w other
  confines-as new to h = grind (arith, common_steps)

  pub no-input-as : NoInput old ns (HasIn w kind) → NoInput old ns (HasIn w other)
  no-input-as none d i a h = none d i a (from (slice_index d.words w) (i.each w) h)
