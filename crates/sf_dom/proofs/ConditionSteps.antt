-- To take a condition into what is known is a lawful step, and so is to take in more of a node.
use Rattle.sf_dom.proofs.Common.{◌≡◌, ℕ, ◌<◌, ◌^◌, List, length, set, arith, refl, sym, inl, inr, ◌≢◌, get_or-set_same, set-get_or, get_or-set_other, length-set, or_lt, Option, Some, None, IfSome, Bool, true, false, MatchBool, cases_eq, Input, IsPool, IsCondBelow, value_of, met-passes, word-place, Cond, Node, Known, Pair, Admits, IsNarrower, known_of, known_at, AgreesWith, IsNarrowed, Meets, AreClosedWords, IsPropagatedBack, met, IsClosedAt, ReductionGives, Then, PassGives, IsAtRest, AreClosed, GoingBackGives, assumed_of, MetGives, AreLeft, with_pair, SpreadingGives, ConditionGives, MoreGives, Excludes, AreExcludedBy, common_steps, IfSome_then}
use Rattle.sf_dom.proofs.BackLaws.{back-lawful, back-still}
use Rattle.sf_dom.proofs.Lawful.{IsLawful, AnyInput, narrowed-left, narrowed-trans, met-admits, closed-zeros, writing-lawful, then-lawful}
use Rattle.sf_dom.proofs.PassLaws.{pass-lawful, pass-rest}
use Rattle.sf_dom.proofs.Passes.{met-left, met-right, rest-pass, closed-kept, still-reduction}
use Rattle.sf_dom.proofs.Reductions.{IsNarrower-trans}
use Rattle.sf_dom.proofs.TestLaws.{test-admits, test-zeros}
use Rattle.sf_dom.proofs.Then.{then-if}

-- ---- what is left of the two nodes of a condition

-- what is known of the second node once the first is written
pub known-other : (ks : List Known) (cond : Cond) (node own : Known) → cond.node.0 < length ks
    → (cond.node.0 ≢ cond.other.0 → own ≡ known_at ks cond.other.0) → (cond.node.0 ≡ cond.other.0 → own ≡ node)
    → own ≡ known_at (set ks cond.node.0 node) cond.other.0
known-other ks cond node own l apart one = grind (arith, common_steps, cases_eq, get_or-set_same, get_or-set_other)

-- once both are written, what is known is closed, and nothing is lost
pub pair-narrowed : (ks : List Known) (ex : List ℕ) (ns : List Node) (cond : Cond) → AreClosed ks ns
    → IsCondBelow (length ns) cond → (pair : Pair) → AreLeft ks ex cond pair
    → IsNarrowed ks (with_pair ks cond pair) ex ns
pair-narrowed ks ex ns cond h below pair left =
    let a = assumed_of ks cond in
    let mid : List Known = set ks cond.node.0 pair.node in
    let v : Known = known_at ks cond.node.0 in
    let w : Known = known_at mid cond.other.0 in
    let first = narrowed-left ks ex ns cond.node.0 (met v a.node) pair.node h below.0 (met-left v a.node) left.node in
    narrowed-trans ks mid (with_pair ks cond pair) ex ns h first
    (narrowed-left mid ex ns cond.other.0 (met w a.other) pair.other first.closed below.1 (met-left w a.other)
    left.other)

-- so it is where they are written, and what follows comes after
pub pair-then : (ks : List Known) (ex : List ℕ) (ns : List Node) (cond : Cond) (pair : Pair) → AreLeft ks ex cond pair
    → (r : Option (List Known)) → SpreadingGives (with_pair ks cond pair) ex ns cond r → ConditionGives ks ex ns cond r
pair-then ks ex ns cond pair left r s = (
  Some (set ks cond.node.0 pair.node),
  (Some pair.node, left.node, refl),
  (Some (with_pair ks cond pair), (Some pair.other, left.other, refl), s),
)

pub condition-steps : (b : Bool) (ks one two new : List Known) (ex : List ℕ) (ns : List Node) (cond : Cond)
    (pair : Pair) → AreLeft ks ex cond pair → GoingBackGives (with_pair ks cond pair) ex ns cond.node.0 (Some one)
    → GoingBackGives one ex ns cond.other.0 (Some two)
    → MatchBool b (PassGives two ex ns (Some new)) (PassGives two ex ns None)
    → MatchBool b (ConditionGives ks ex ns cond (Some new)) (ConditionGives ks ex ns cond None)
condition-steps true ks one two new ex ns cond pair g h k w =
    pair-then ks ex ns cond pair g (Some new) (Some one, h, (Some two, k, w))
condition-steps false ks one two new ex ns cond pair g h k w =
    pair-then ks ex ns cond pair g None (Some one, h, (Some two, k, w))

-- known bits that go back from both nodes lose nothing
pub both-back : (ks one two : List Known) (ex : List ℕ) (ns : List Node) (cond : Cond) → IsPool ns
    → AreClosed ks ns → IsCondBelow (length ns) cond → GoingBackGives ks ex ns cond.node.0 (Some one)
    → GoingBackGives one ex ns cond.other.0 (Some two) → IsNarrowed ks two ex ns
both-back ks one two ex ns cond p h below g k =
    let first = (back-lawful ks ex ns cond.node.0 p h below.0).narrowed (Some one) g in
    narrowed-trans ks one two ex ns h first
    ((back-lawful one ex ns cond.other.0 p first.closed below.1).narrowed (Some two) k)

-- ---- lawful steps

-- to take in more of a node is a lawful step for the inputs on which it has such a number
met-lawful : (has : Input → Type 0) (ks : List Known) (ex : List ℕ) (ns : List Node) (i : ℕ) (more : Known)
    → IsPool ns → AreClosed ks ns → i < length ns → more.zeros < 2 ^ 32
    → ((d : Input) → has d → AgreesWith ks ex ns d → Admits more (value_of ns d i))
    → IsLawful has ks ex ns (MetGives ks ex i more)
met-lawful has ks ex ns i more p h l f admits =
    let count = h.count in let own : Known = known_at ks i in
    writing-lawful has ks ex ns i (met own more) p h l (met-left own more)
    (or_lt 32 own.zeros more.zeros (closed-zeros own (h.each i l)) f)
    (λ d v m a. met-admits own more (value_of ns d i) (a i (omega arith)).admitted (admits d m a))

-- and where lawful steps come after, it is known then
met-known : (ks : List Known) (ex : List ℕ) (ns : List Node) (i : ℕ) (more : Known) (has : Input → Type 0)
    (second : List Known → Option (List Known) → Type 0) → AreClosed ks ns → i < length ns
    → ((next : List Known) → AreClosed next ns → IsLawful has next ex ns (second next)) → (r : Option (List Known))
    → Then (MetGives ks ex i more) second r → IfSome r (λ new. IsNarrower more (known_at new i))
met-known ks ex ns i more has second h l lawful =
    let own : Known = known_at ks i in let here : i < length ks = omega (arith, h.count) in
    then-if (MetGives ks ex i more) second (λ new. IsNarrower more (known_at new i)) (λ next g r f.
    let written = then-if (ReductionGives ex i (met own more)) (λ left r. r ≡ Some (set ks i left))
    (λ next. IsNarrowed ks next ex ns × IsNarrower more (known_at next i)) (λ left k r e. rw e (
      narrowed-left ks ex ns i (met own more) left h l (met-left own more) k,
      rw (get_or-set_same ks i left (known_of 0 0 0 0) here) (IsNarrower-trans more (met own more) left
          (met-right own more) k.narrower),
    )) (Some next) g in
    let count = written.0.closed.count in
    IfSome_then r ((lawful next written.0.closed).narrowed r f)
    (λ new n. IsNarrower-trans more (known_at next i) (known_at new i) written.1 (n.narrower i (omega arith))))

spreading-lawful : (ks : List Known) (ex : List ℕ) (ns : List Node) (cond : Cond) → IsPool ns → AreClosed ks ns
    → IsCondBelow (length ns) cond → IsLawful AnyInput ks ex ns (SpreadingGives ks ex ns cond)
spreading-lawful ks ex ns cond p h below =
    then-lawful AnyInput AnyInput ks ex ns (GoingBackGives ks ex ns cond.node.0)
    (λ one. Then (GoingBackGives one ex ns cond.other.0) (λ two s. PassGives two ex ns s)) h (λ d m a. tt)
    (back-lawful ks ex ns cond.node.0 p h below.0) (λ one g.
    then-lawful AnyInput AnyInput one ex ns (GoingBackGives one ex ns cond.other.0) (λ two s. PassGives two ex ns s) g
    (λ d m a. tt) (back-lawful one ex ns cond.other.0 p g below.1) (λ two k. pass-lawful two ex ns p k))

-- what a condition says of its second node, and what follows
abbrev OtherGives : Known → List ℕ → List Node → Cond → List Known → Option (List Known) → Type 0
OtherGives told ex ns cond mid = Then (MetGives mid ex cond.other.0 told) (λ both. SpreadingGives both ex ns cond)

other-lawful : (told : Known) (mid : List Known) (ex : List ℕ) (ns : List Node) (cond : Cond) → IsPool ns
    → IsCondBelow (length ns) cond → told.zeros < 2 ^ 32 → AreClosed mid ns
    → IsLawful (λ d. Admits told (value_of ns d cond.other.0)) mid ex ns (OtherGives told ex ns cond mid)
other-lawful told mid ex ns cond p below f h =
    let has : Input → Type 0 = λ d. Admits told (value_of ns d cond.other.0) in
    then-lawful has AnyInput mid ex ns (MetGives mid ex cond.other.0 told) (λ both. SpreadingGives both ex ns cond) h
    (λ d m a. tt) (met-lawful has mid ex ns cond.other.0 told p h below.1 f (λ d m a. m))
    (λ both g. spreading-lawful both ex ns cond p g below)

-- to take in a condition is a lawful step for the inputs that meet it
pub condition-lawful : (ks : List Known) (ex : List ℕ) (ns : List Node) (cond : Cond) → IsPool ns → AreClosed ks ns
    → IsCondBelow (length ns) cond → IsLawful (Meets ns cond) ks ex ns (ConditionGives ks ex ns cond)
condition-lawful ks ex ns cond p h below =
    let v : Known = known_at ks cond.node.0 in let w : Known = known_at ks cond.other.0 in
    let told : Pair = assumed_of ks cond in
    let cv = h.each cond.node.0 below.0 in let cw = h.each cond.other.0 below.1 in
    let z = test-zeros cond.test cond.sense v w cv cw in
    let lv : cond.node.0 < length ks = omega (arith, h.count, below.0) in
    let lw : cond.other.0 < length ks = omega (arith, h.count, below.1) in
    let said : (d : Input) → Meets ns cond d → AgreesWith ks ex ns d → Admits told.node (value_of ns d cond.node.0)
    × Admits told.other (value_of ns d cond.other.0)
    = λ d m a. test-admits cond.test cond.sense v w (value_of ns d cond.node.0) (value_of ns d cond.other.0) cv cw
    (a cond.node.0 lv).admitted (a cond.other.0 lw).admitted (met-passes ns d cond m) in
    then-lawful (Meets ns cond) (λ d. Admits told.other (value_of ns d cond.other.0)) ks ex ns
    (MetGives ks ex cond.node.0 told.node) (OtherGives told.other ex ns cond) h (λ d m a. (said d m a).1)
    (met-lawful (Meets ns cond) ks ex ns cond.node.0 told.node p h below.0 z.0 (λ d m a. (said d m a).0))
    (λ mid k. other-lawful told.other mid ex ns cond p below z.1 k)

-- what it says of its first node is known afterwards
pub condition-known : (ks : List Known) (ex : List ℕ) (ns : List Node) (cond : Cond) → IsPool ns → AreClosed ks ns
    → IsCondBelow (length ns) cond → (r : Option (List Known)) → ConditionGives ks ex ns cond r
    → IfSome r (λ new. IsNarrower (assumed_of ks cond).node (known_at new cond.node.0))
condition-known ks ex ns cond p h below =
    let told : Pair = assumed_of ks cond in
    let z = test-zeros cond.test cond.sense (known_at ks cond.node.0) (known_at ks cond.other.0)
    (h.each cond.node.0 below.0) (h.each cond.other.0 below.1) in
    met-known ks ex ns cond.node.0 told.node (λ d. Admits told.other (value_of ns d cond.other.0))
    (OtherGives told.other ex ns cond) h below.0 (λ mid k. other-lawful told.other mid ex ns cond p below z.1 k)

-- nothing more follows after a condition
pub condition-rest : (ks : List Known) (ex : List ℕ) (ns : List Node) (cond : Cond) (r : Option (List Known))
    → ConditionGives ks ex ns cond r → IfSome r (λ next. (i : ℕ) → i < length ns → IsAtRest next ex ns i)
condition-rest ks ex ns cond = grind (arith, common_steps, pass-rest, then-if)

pub more-lawful : (ks : List Known) (ex : List ℕ) (ns : List Node) (i : ℕ) (more : Known) → IsPool ns
    → AreClosed ks ns → i < length ns → more.zeros < 2 ^ 32
    → IsLawful (λ d. Admits more (value_of ns d i)) ks ex ns (MoreGives ks ex ns i more)
more-lawful ks ex ns i more p h l f =
    let has : Input → Type 0 = λ d. Admits more (value_of ns d i) in
    then-lawful has AnyInput ks ex ns (MetGives ks ex i more) (λ next s. PassGives next ex ns s) h (λ d m a. tt)
    (met-lawful has ks ex ns i more p h l f (λ d m a. m)) (λ next k. pass-lawful next ex ns p k)

pub more-rest : (ks : List Known) (ex : List ℕ) (ns : List Node) (i : ℕ) (more : Known) (r : Option (List Known))
    → MoreGives ks ex ns i more r → IfSome r (λ next. (j : ℕ) → j < length ns → IsAtRest next ex ns j)
more-rest ks ex ns i more =
    then-if (MetGives ks ex i more) _ (λ next. (j : ℕ) → j < length ns
    → IsAtRest next ex ns j) (λ next g r f. pass-rest next ex ns r f)

pub more-known : (ks : List Known) (ex : List ℕ) (ns : List Node) (i : ℕ) (more : Known) → IsPool ns
    → AreClosed ks ns → i < length ns → (r : Option (List Known)) → MoreGives ks ex ns i more r
    → IfSome r (λ new. IsNarrower more (known_at new i))
more-known ks ex ns i more p h l =
    met-known ks ex ns i more AnyInput (λ next s. PassGives next ex ns s) h l (λ next k. pass-lawful next ex ns p k)

-- a condition of which nothing follows changes nothing
met-still : (ks : List Known) (ex : List ℕ) (i : ℕ) (more : Known) → IsClosedAt ex i (known_at ks i)
    → IsNarrower more (known_at ks i) → MetGives ks ex i more (Some ks)
met-still ks ex i more h n = (
  Some (known_at ks i),
  still-reduction (IsClosedAt ex i) (known_at ks i) more h n,
  rw (set-get_or ks i (known_of 0 0 0 0)) refl,
)

pub condition-nothing : (ks : List Known) (ex : List ℕ) (ns : List Node) (cond : Cond) → IsPool ns
    → length ks ≡ length ns → IsCondBelow (length ns) cond → ((i : ℕ) → i < length ns → IsAtRest ks ex ns i)
    → IsNarrower (assumed_of ks cond).node (known_at ks cond.node.0)
    → IsNarrower (assumed_of ks cond).other (known_at ks cond.other.0)
    → ((n : ℕ) → IsPropagatedBack n ks ns cond.node.0) → ((n : ℕ) → IsPropagatedBack n ks ns cond.other.0)
    → ConditionGives ks ex ns cond (Some ks)
condition-nothing ks ex ns cond p count below rest this that one two =
    let v = below.0 in let w = below.1 in
    let closed : (i : ℕ) → i < length ns → IsClosedAt ex i (known_at ks i) = λ i l. (rest i l).closed in (
      Some ks,
      met-still ks ex cond.node.0 (assumed_of ks cond).node (closed cond.node.0 v) this,
      (
        Some ks,
        met-still ks ex cond.other.0 (assumed_of ks cond).other (closed cond.other.0 w) that,
        (
          Some ks,
          back-still (length ns) ks ex ns cond.node.0 p v v closed one,
          (Some ks, back-still (length ns) ks ex ns cond.other.0 p w w closed two, rest-pass ks ex ns count rest),
        ),
      ),
    )

-- ---- nothing more follows for any word once what a condition leaves of its two nodes is written

-- nothing more follows for a word for which no number is excluded newly
closed-still : (ks : List Known) (ex more : List ℕ) (ns : List Node) (cond : Cond) (w : ℕ) → w < 16
    → AreExcludedBy ks ex more ns cond → ((m : ℕ) → ¬ Excludes ks ns cond w m) → IsClosedAt ex w (known_at ks w)
    → IsClosedAt more w (known_at ks w)
closed-still ks ex more ns cond w l both none k =
    closed-kept ex more w (known_at ks w)
    (λ b m e h z. elim (both.only w m z) [ inl old ↦ h old | inr new ↦ none m new ]) k

-- Where a condition excludes a number for a word, this is one of its nodes, and is reduced with the new numbers.
pub words-written : (ks : List Known) (ex more : List ℕ) (ns : List Node) (cond : Cond) (pair : Pair)
    → IsPool ns → length ks ≡ length ns → IsCondBelow (length ns) cond → AreClosedWords ks ex
    → AreExcludedBy ks ex more ns cond → AreLeft ks more cond pair → AreClosedWords (with_pair ks cond pair) more
words-written ks ex more ns cond pair p count below closed both left w l =
    let none : Known = known_of 0 0 0 0 in
    let first : List Known = set ks cond.node.0 pair.node in
    let v = below.0 in let u = below.1 in
    let here : cond.node.0 < length ks = omega arith in
    let there : cond.other.0 < length first = omega (arith, length-set ks cond.node.0 pair.node) in
    elim (cases_eq w cond.other.0) [
      | inl e ↦ rw (e, get_or-set_same first cond.other.0 pair.other none there) left.other.is
      | inr other ↦ rw (get_or-set_other first cond.other.0 w pair.other none other) (elim (cases_eq w cond.node.0) [
        | inl e ↦ rw (e, get_or-set_same ks cond.node.0 pair.node none here) left.node.is
        | inr node ↦ rw (get_or-set_other ks cond.node.0 w pair.node none node)
            (closed-still ks ex more ns cond w l both (λ m x. elim x.2 [
              | inl y ↦ node (sym (word-place ns p cond.node.0 w v y.0))
              | inr y ↦ other (sym (word-place ns p cond.other.0 w u y.0))
            ]) (closed w l))
      ])
    ]
