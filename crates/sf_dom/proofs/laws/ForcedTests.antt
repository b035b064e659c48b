-- A test against a number that is forced, as a condition.
use Rattle.sf_dom.proofs.Common.{◌≡◌, ◌≢◌, ℕ, zero, suc, ◌<◌, ◌^◌, ◌+◌, ◌-◌, List, [], ◌∷◌, ◌++◌, length, Bool, arith, refl, sym, ap, ◌∙◌, eq-eqb, get_or_append_left, get_or_push, length_push, take-append_seam, Option, Some, None, IfSome, BinOp, Test, IsSwappable, constant_operand_of, IsPool, node_at, IsPool-push, Node, Const, NodeId, Known, known_of, gained, IsPropagatedBack, FactsView, known_at, GrowsBy, AreTakenIn, IsAtRest, number_known, IsClosedAt, IsForcedCondition, IsForcedTest, condition, closed-consistent}
use Rattle.sf_dom.proofs.ConstantOperands.{is-operand}
use Rattle.sf_dom.proofs.laws.Carried.{IsLonger, extends-longer, at-same}
use Rattle.sf_dom.proofs.ClosedLemmas.{closed-number}
use Rattle.sf_dom.proofs.Passes.{number-stays}
use Rattle.sf_dom.proofs.RuleLaws.{again}
use Rattle.sf_dom.proofs.Sampled.{grown-rest}

-- a constant at rest is its number
constant-known : (ks : List Known) (ex : List ℕ) (ns : List Node) (i c : ℕ) → c < 2 ^ 32 → node_at ns i ≡ Const c
    → IsAtRest ks ex ns i → known_at ks i ≡ number_known c
constant-known ks ex ns i c f e r =
    number-stays (number_known c) (known_at ks i) (closed-consistent (number_known c) (closed-number c f))
    (closed-consistent (known_at ks i) r.closed.known) (rw e at r.still) refl

-- no known bits go back from a constant
constant-back : (n : ℕ) (ks : List Known) (ns : List Node) (i c : ℕ) → node_at ns i ≡ Const c
    → IsPropagatedBack n ks ns i
constant-back zero ks ns i c e = tt
constant-back (suc n) ks ns i c e = rw e tt

pub forced-found : (f : FactsView) (ns : List Node) (node other : NodeId) (test : Test) (number : ℕ)
    (sense result : Bool) → IsForcedTest f ns node test number result → other.0 < length ns
    → node_at ns other.0 ≡ Const number → IsForcedCondition f ns (condition node test other sense) number result
forced-found f ns node other test number sense result h l e = record {
  pool = h.pool;
  count = h.count;
  lists = h.lists;
  rest = h.rest;
  below = (h.below, l);
  decided = constant-known f.known f.excluded ns other.0 number h.fits e (h.rest other.0 l);
  forced = h.forced;
  node_back = h.back;
  other_back = λ n. constant-back n f.known ns other.0 number e;
}

-- going back is the same where a pool has gained a node
back-longer : (n : ℕ) (ks js : List Known) (ns longer : List Node) (at : ℕ) → IsPool ns → at < length ns
    → IsLonger ns longer → ((i : ℕ) → i < length ns → known_at js i ≡ known_at ks i) → IsPropagatedBack n ks ns at
    → IsPropagatedBack n js longer at
back-longer zero ks js ns longer at p l h same w = tt
back-longer (suc n) ks js ns longer at p l h same w =
    rw (at-same ns longer at p l h) (on (constant_operand_of ns (node_at ns at)) refl w
    (λ i m v. back-longer n ks js ns longer i p m h same v))
  where
    on : (o : Option (BinOp × ℕ × ℕ)) → constant_operand_of ns (node_at ns at) ≡ o
        → IfSome o (λ o. IsSwappable o.0 → (gained o.0 o.2 (known_at ks at) (known_at ks o.1) ≡ known_at ks o.1)
        × IsPropagatedBack n ks ns o.1)
        → ((i : ℕ) → i < length ns → IsPropagatedBack n ks ns i → IsPropagatedBack n js longer i)
        → IfSome o (λ o. IsSwappable o.0
        → (gained o.0 o.2 (known_at js at) (known_at js o.1) ≡ known_at js o.1) × IsPropagatedBack n js longer o.1)
    on None e x more = tt
    on (Some o) e x more = λ s.
        let older = (is-operand ns at o p l e).older in
        let here : o.1 < length ns = omega arith in
        let y = x s in
        (rw (same at l, same o.1 here) y.0, more o.1 here y.1)

pub forced-added : (f : FactsView) (ns : List Node) (node other : NodeId) (test : Test) (number : ℕ)
    (sense result : Bool) → IsForcedTest f ns node test number result
    → ((i : ℕ) → i < length ns → node_at ns i ≢ Const number) → other.0 ≡ length ns
    → (g : FactsView) × GrowsBy f g (ns ++ Const number ∷ [])
    × IsForcedCondition g (ns ++ Const number ∷ []) (condition node test other sense) number result
forced-added f ns node other test number sense result h none at =
    let more : List Node = ns ++ Const number ∷ [] in
    let new : Known = number_known number in
    let ks : List Known = f.known ++ new ∷ [] in
    let g : FactsView = record { known = ks; variables = f.variables; excluded = f.excluded } in
    let count = h.count in
    let longer = extends-longer ns more (Const number ∷ [], refl) in
    let pool : IsPool more = IsPool-push ns (Const number) h.pool h.fits none in
    let size : length more ≡ length ns + 1 = length_push ns (Const number) in
    let last : node_at more (length ns) ≡ Const number = get_or_push ns (Const number) (Const 0) (length ns) refl in
    let nothing : Known = known_of 0 0 0 0 in
    let one : length more - length f.known ≡ 1 = omega (arith, count, size) in
    let at_end : length f.known + 0 ≡ length ns = omega (arith, count) in
    let older : (i : ℕ) → i < length ns → known_at ks i ≡ known_at f.known i
    = λ i l. get_or_append_left f.known (new ∷ []) nothing i (omega arith) in
    let newest : known_at ks (length ns) ≡ new = get_or_push f.known new nothing (length ns) count in
    let taken : AreTakenIn f.known ks f.excluded more = record {
      count = length_push f.known new ∙ ap (λ n. n + 1) count ∙ sym size;
      kept = take-append_seam f.known (new ∷ []);
      each = λ i a l.
          let e : i ≡ length ns = omega arith in
          let known : known_at ks i ≡ new = ap (known_at ks) e ∙ newest in
          let node : node_at more i ≡ Const number = ap (node_at more) e ∙ last in
          rw (known, node) (again (IsClosedAt f.excluded i) new
          (record { known = closed-number number h.fits; tight = λ b. absurd (omega arith) }));
    } in (
      g,
      record {
        known = taken;
        variables = rw (one, at_end, last, newest, eq-eqb number number refl) refl;
        excluded = refl;
      },
      forced-found g more node other test number sense result (record {
        pool = pool;
        count = taken.count;
        lists = h.lists;
        rest = grown-rest f.known ks f.excluded ns more h.pool count (Const number ∷ [], refl) taken h.rest;
        below = omega (arith, h.below);
        fits = h.fits;
        forced = rw (older node.0 h.below) h.forced;
        back = λ n. back-longer n f.known ks ns more node.0 h.pool h.below longer older (h.back n);
      }) (omega arith) (rw at last),
    )
