-- A result that is forced is the only one that can be learnt.
use Rattle.sf_dom.proofs.Common.{◌≡◌, ◌≢◌, ℕ, ◌<◌, ◌^◌, List, length, set, Bool, true, false, not, arith, refl, sym, ap, ◌∙◌, ◌⊎◌, inl, inr, cases_eq, nat_tests, None, bit_or, or_lt, Test, Equal, IsPool, IsCondBelow, node_at, value_of, word-place, Cond, Node, Word, Known, IsNarrower, IsDecided, FactsView, known_at, numbers_at, Agrees, Covers, Excludes, AreExcludedBy, LearnsBy, CantLearn, IsAtRest, AreExcluded, TestGives, assumed, number_known, past, IsClosed, IsClosedAt, met, IsForcedCondition, IsInput, passes, Input, constant-admits, IsForcedBy, common_steps, value-small}
use Rattle.sf_dom.proofs.ClosedLemmas.{closed-number}
use Rattle.sf_dom.proofs.ConditionSteps.{condition-nothing}
use Rattle.sf_dom.proofs.AscendingLemmas.{one-more}
use Rattle.sf_dom.proofs.Excluding.{added-at, excluded-word, both-excluded}
use Rattle.sf_dom.proofs.Passes.{operands-below, closed-kept}
use Rattle.sf_dom.proofs.propagation.Propagations.{word-below}
use Rattle.sf_dom.proofs.TestLaws.{at-decided, test-admits, test-zeros}
use Rattle.sf_dom.proofs.Covering.{covers-closed}
use Rattle.sf_dom.proofs.Lawful.{closed-zeros, kept-at, met-admits, reduction-holds}

-- ---- the sets with the numbers that a condition excludes

none-excluded : (ks : List Known) (ex : List ℕ) (ns : List Node) (c : Cond)
    → ((w m : ℕ) → ¬ Excludes ks ns c w m) → AreExcludedBy ks ex ex ns c
none-excluded ks ex ns c none = record {
  words = refl;
  kept = λ w m x. x;
  more = λ w m x. absurd (none w m x);
  only = λ w m x. inl x;
}

-- sets in which the number of a decided node is excluded for a word
abbrev HasSets : List ℕ → Node → Known → Type 0
HasSets ex n k = (sets : List ℕ) × AreExcluded ex sets n k

unchanged : (ex : List ℕ) (n : Node) (k : Known) → ((w : ℕ) → n ≡ Word w → IsDecided k → ⊥) → HasSets ex n k
unchanged ex n k none =
    (ex, record { words = refl; more = λ i m x. x; only = λ i m x. inl x; added = λ i e d. absurd (none i e d) })

sets-of : (ex : List ℕ) (n : Node) (k : Known) → length ex ≡ 16 → ((w : ℕ) → n ≡ Word w → w < 16) → HasSets ex n k
sets-of ex (Word w) k l small = elim (cases_eq k.low k.high) [
  | inr ne ↦ unchanged ex (Word w) k (λ v e d. ne d)
  | inl e ↦
      let more : ℕ = bit_or (2 ^ k.low) (numbers_at ex w) in (
        set ex w more,
        excluded-word ex (set ex w more) w (Word w) k refl e
            (added-at ex w more k.low (omega (arith, l, small w refl)) (one-more k.low (numbers_at ex w))),
      )
]
sets-of ex n k l small = unchanged ex n k (λ w e d. let clash : n ≡ Word w = e in absurd cc)

-- sets in which the numbers that a condition excludes are excluded
abbrev HasExclusions : List Known → List ℕ → List Node → Cond → Type 0
HasExclusions ks ex ns c = (sets : List ℕ) × AreExcludedBy ks ex sets ns c

exclusions : (ks : List Known) (ex : List ℕ) (ns : List Node) (c : Cond) → IsPool ns → length ex ≡ 16
    → IsCondBelow (length ns) c → HasExclusions ks ex ns c
exclusions ks ex ns c p l below = on c.test c.sense refl refl
  where
    small : (i : ℕ) → i < length ns → (w : ℕ) → node_at ns i ≡ Word w → w < 16
    small i li w e = word-below i (node_at ns i) (operands-below ns i p li) w e

    none : ¬ ((c.test ≡ Equal) × (c.sense ≡ false)) → HasExclusions ks ex ns c
    none n = (ex, none-excluded ks ex ns c (λ w m x. n (x.0, x.1)))

    on : (t : Test) (s : Bool) → c.test ≡ t → c.sense ≡ s → HasExclusions ks ex ns c
    on Equal false et es =
        let a = sets-of ex (node_at ns c.node.0) (known_at ks c.other.0) l (small c.node.0 below.0) in
        let b = sets-of a.0 (node_at ns c.other.0) (known_at ks c.node.0) (a.1.words ∙ l)
        (small c.other.0 below.1) in
        (b.0, both-excluded ks ex a.0 b.0 ns c a.1 b.1 et es)
    on Equal true et es = none (λ x. let clash : true ≡ false = sym es ∙ x.1 in absurd cc)
    on t s et es = none (λ x. let clash : t ≡ Equal = sym et ∙ x.0 in absurd cc)

-- ---- nothing changes

-- a number that moves no end is none
past-ends : (k : Known) (c : ℕ) → IsClosed k → IsNarrower (past c k) k → (c ≢ k.low) × (c ≢ k.high)
past-ends k c h n = let a = n.low in let b = n.high in let o = h.ordered in let f = h.fits in grind (arith, nat_tests)

this-apart : (k : Known) (n : ℕ) → IsClosed k → IsNarrower (assumed Equal false k (number_known n)).node k
    → (n ≢ k.low) × (n ≢ k.high)
unfolding assumed
this-apart k n h w = past-ends k n h (rw (at-decided past (number_known n) k refl) at w)

that-apart : (k : Known) (n : ℕ) → n < 2 ^ 32 → IsDecided k
    → IsNarrower (assumed Equal false k (number_known n)).other (number_known n) → k.low ≢ n
unfolding assumed
that-apart k n f d w =
    (past-ends (number_known n) k.low (closed-number n f) (rw (at-decided past k (number_known n) d) at w)).0

-- a condition whose result is forced
module _ (f : FactsView) (ns : List Node) (c : Cond) (number : ℕ)
    (h : IsForcedCondition f ns c number c.sense) (lists : List ℕ)
    (are : AreExcludedBy f.known f.excluded lists ns c) where
  fits : number < 2 ^ 32
  fits = let e = ap (λ (k : Known). k.high) h.decided in
      omega (arith, e, (h.rest c.other.0 h.below.1).closed.known.fits)

  -- an end of a word isn't among the numbers that are excluded now
  end-stays : (i m : ℕ) → i < 16 → i < length ns → (m ≡ (known_at f.known i).low) ⊎ (m ≡ (known_at f.known i).high)
      → ¬ Excludes f.known ns c i m
  end-stays i m b l end (et, es, inl x) = grind (arith, common_steps, word-place, this-apart)
  end-stays i m b l end (et, es, inr x) = grind (arith, common_steps, word-place, that-apart, fits)

  rests : (i : ℕ) → i < length ns → IsAtRest f.known lists ns i
  rests i l =
      let r = h.rest i l in let k : Known = known_at f.known i in
      record {
        closed = closed-kept f.excluded lists i k (λ b m end kept z. elim (are.only i m z) [
          | inl old ↦ kept old
          | inr new ↦ end-stays i m b l end new
        ]) r.closed;
        still = r.still;
      }

  learns : LearnsBy f (record { known = f.known; variables = f.variables; excluded = lists }) ns c
  learns = record {
    excluded = are;
    known = condition-nothing f.known lists ns c h.pool h.count h.below rests (rw h.decided h.forced.this)
        (rw h.decided h.forced.that) h.node_back h.other_back;
    variables = refl;
  }

pub forced-learns : (f : FactsView) (ns : List Node) (c : Cond) (number : ℕ)
    → IsForcedCondition f ns c number c.sense → (new : FactsView) × (new.known ≡ f.known) × LearnsBy f new ns c
forced-learns f ns c number h =
    let all = exclusions f.known f.excluded ns c h.pool h.lists h.below in (
      record { known = f.known; variables = f.variables; excluded = all.0 },
      refl,
      learns f ns c number h all.0 all.1,
    )

not-not : (b : Bool) → not (not b) ≡ b
not-not true = refl
not-not false = refl

pub forced-cant : (f : FactsView) (ns : List Node) (c : Cond) (number : ℕ)
    → IsForcedCondition f ns c number (not c.sense) → CantLearn f ns c
forced-cant f ns c number h =
    let all = exclusions f.known f.excluded ns c h.pool h.lists h.below in
    let none = rw (not-not c.sense, ← h.decided) at h.forced.other in
    record {
      sets = all.0;
      excluded = all.1;
      none = (
        None,
        (
          None,
          (λ s is n. none s (closed-kept all.0 f.excluded c.node.0 s
              (λ b m e kept x. kept (all.1.kept c.node.0 m x)) is) n),
          refl,
        ),
        refl,
      );
    }

-- ---- a result that the rules force is the one that each input that agrees has

-- it isn't the other one
not-other : (b sense : Bool) → ¬ (b ≡ not sense) → b ≡ sense
not-other true true h = refl
not-other true false h = absurd (h refl)
not-other false true h = absurd (h refl)
not-other false false h = refl

pub forced-holds : (f : FactsView) (ns : List Node) (i : ℕ) (test : Test) (number : ℕ) (sense : Bool) → Covers f ns
    → i < length ns → number < 2 ^ 32 → IsForcedBy (IsClosedAt f.excluded i) (known_at f.known i) test number sense
    → (d : Input) → IsInput d → Agrees f ns d → TestGives test (value_of ns d i) number sense
unfolding Agrees
forced-holds f ns i test number sense h l fits forced d input a =
    let here : i < length f.known = omega arith in
    let own : Known = known_at f.known i in let n : Known = number_known number in let x : ℕ = value_of ns d i in
    let closed = covers-closed f ns h in let is = closed.each i l in let one = closed-number number fits in
    let admitted = (a i here).admitted in
    let zeros = test-zeros test (not sense) own n is one in
    not-other (passes test x number) sense (λ e.
    let said = test-admits test (not sense) own n x number is one admitted (constant-admits number fits) e in
    reduction-holds None f.excluded i x (met own (assumed test (not sense) own n).node)
    (value-small ns d i h.pool input)
    (or_lt 32 own.zeros (assumed test (not sense) own n).node.zeros (closed-zeros own is) zeros.0)
    (λ b. kept-at f.known f.excluded ns d i h.pool here a b)
    (met-admits own (assumed test (not sense) own n).node x admitted said.0) forced.other)
