-- What stays as it is in a forward pass, and what a pass leaves.
use Rattle.sf_dom.proofs.Common.{◌≡◌, ℕ, true, ◌+◌, ◌-◌, ◌<◌, ◌≤◌, List, length, arith, refl, sym, ap, ◌∙◌, ◌⊎◌, Option, Some, None, MatchOption, and_parts, eqb-true, ext_get_or, bit_at_or, bit_at-zero, IsPool, OperandsBelow, node_at, Node, Const, Word, Bin, Neg, OperandsBelow-at, Known, Has, IsNarrower, IsConsistent, IsDecided, known_of, known_at, numbers_at, closed-consistent, met, forward_node, IsClosed, IsClosedAt, IsReduction, IsWidest, HasNone, IsPassedAt, IsPass, PassFails, IsAtRest, are_all_decided, IsFixedAt, common_steps}
use Rattle.sf_dom.proofs.Reductions.{IsNarrower-trans, IsNarrower-refl}
use Rattle.sf_dom.proofs.Bits.{bits-of-or, bits-of-or_right}
use Rattle.sf_dom.proofs.ClosedLemmas.{closed-number}
use Rattle.sf_dom.proofs.RuleLaws.{four-same, one-reduction}
use Rattle.sf_dom.proofs.Then.{by-older}

-- what is met loses nothing of either
pub met-left : (a b : Known) → IsNarrower a (met a b)
met-left a b = grind (arith, common_steps, bits-of-or)

pub met-right : (a b : Known) → IsNarrower b (met a b)
met-right a b = grind (arith, common_steps, bits-of-or_right)

pub met-below : (a b k : Known) → IsNarrower a k → IsNarrower b k → IsNarrower (met a b) k
met-below a b k h l = grind (arith, common_steps, bit_at_or)

-- where nothing follows, reduction leaves what was known
pub still-reduction : (kind : Known → Type 0) (k f : Known) → kind k → IsNarrower f k → IsWidest kind (met k f) k
still-reduction kind k f h n = grind (arith, common_steps, IsNarrower-trans, IsNarrower-refl, met-left, met-below)

-- nothing more follows for a node still, where its ends are left as before
pub closed-kept : (a b : List ℕ) (i : ℕ) (k : Known)
    → (i < 16 → (m : ℕ) → (m ≡ k.low) ⊎ (m ≡ k.high) → ¬ Has (numbers_at a i) m → ¬ Has (numbers_at b i) m)
    → IsClosedAt a i k → IsClosedAt b i k
closed-kept a b i k f h = grind (arith, common_steps)

-- operands are older
pub operands-below : (ns : List Node) (i : ℕ) → IsPool ns → i < length ns → OperandsBelow i (node_at ns i)
operands-below ns i p l = let e : 0 + i ≡ i = omega arith in rw e at (OperandsBelow-at 0 ns i p.ordered l)

-- what has one number with all its bits is that number
pub one-number : (k : Known) → IsConsistent k → IsDecided k → k ≡ known_of k.low k.low (4294967295 - k.low) k.low
one-number k h e =
    four-same k.low k.high k.zeros k.ones k.low k.low (4294967295 - k.low) k.low refl (sym e) (h.zeros e) (h.ones e)

-- no more becomes known of what has one number
pub number-stays : (a b : Known) → IsConsistent a → IsConsistent b → IsNarrower a b → IsDecided a → b ≡ a
number-stays a b h k n e =
    let nl = n.low in let nh = n.high in let o = k.ordered in let same : b.low ≡ a.low = omega arith in
    one-number b k (omega arith) ∙ ap (λ m. known_of m m (4294967295 - m) m) same ∙ sym (one-number a h e)

-- nor does reduction add to it
pub reduced-stays : (ex : List ℕ) (i : ℕ) (k old left : Known) → IsClosed k → IsNarrower k old
    → IsReduction ex i old left → IsDecided k → left ≡ k
reduced-stays ex i k old left h n r d = number-stays k left (closed-consistent k h)
    (closed-consistent left r.is.known) (IsNarrower-trans k old left n r.narrower) d

pub decided-closed : (k : Known) → IsConsistent k → IsDecided k → IsClosed k
decided-closed k h e = rw (one-number k h e) (closed-number k.low (omega (arith, h.fits, e)))

-- what follows from operands that are the same
pub forward-same : (ks js : List Known) (k : ℕ) (n : Node) → OperandsBelow k n
    → ((j : ℕ) → j < k → known_at ks j ≡ known_at js j) → forward_node ks n ≡ forward_node js n
forward-same ks js k (Bin op a b) o h = rw (h a.0 o.0, h b.0 o.1) refl
forward-same ks js k (Neg a) o h = rw (h a.0 o) refl
forward-same ks js k n o h = refl

-- operands with one number keep it
pub decided-same : (ks js : List Known) (k : ℕ) (n : Node) → OperandsBelow k n
    → ((j : ℕ) → j < k → IsDecided (known_at ks j) → known_at js j ≡ known_at ks j) → are_all_decided ks n ≡ true
    → (are_all_decided js n ≡ true) × (forward_node js n ≡ forward_node ks n)
decided-same ks js k (Const c) o h d = (refl, refl)
decided-same ks js k (Word i) o h d = absurd cc
decided-same ks js k (Bin op a b) o h d = grind (arith, common_steps, and_parts, eqb-true)
decided-same ks js k (Neg a) o h d =
    let e = h a.0 o (eqb-true (known_at ks a.0).low (known_at ks a.0).high d) in (rw e d, rw e refl)

-- operands of which the same is known are decided in both
pub decided-as : (ks js : List Known) (k : ℕ) (n : Node) → OperandsBelow k n
    → ((j : ℕ) → j < k → known_at js j ≡ known_at ks j) → are_all_decided js n ≡ are_all_decided ks n
decided-as ks js k (Bin op a b) o h = rw (h a.0 o.0, h b.0 o.1) refl
decided-as ks js k (Neg a) o h = rw (h a.0 o) refl
decided-as ks js k n o h = refl

-- no more becomes known of a node of which no more can
pub fixed-same : (ks js : List Known) (ns : List Node) (i : ℕ) → IsPool ns → i < length ns
    → ((j : ℕ) → j < i → IsDecided (known_at ks j) → known_at js j ≡ known_at ks j)
    → IsNarrower (known_at ks i) (known_at js i) → IsFixedAt ks ns i → IsFixedAt js ns i
fixed-same ks js ns i p l same n f = grind (arith, common_steps, IsNarrower-trans, operands-below, decided-same)

-- a node of which no more can become known is at rest
pub fixed-rest : (ks : List Known) (ex : List ℕ) (ns : List Node) (i : ℕ) → IsConsistent (known_at ks i)
    → 16 ≤ i → IsDecided (known_at ks i) → IsFixedAt ks ns i → IsAtRest ks ex ns i
fixed-rest ks ex ns i c l d f = grind (arith, common_steps, decided-closed)

-- a word has no operands, so nothing follows for it
pub word-rest : (ks : List Known) (ex : List ℕ) (ns : List Node) (i : ℕ) → IsPool ns → i < 16
    → IsClosedAt ex i (known_at ks i) → IsAtRest ks ex ns i
word-rest ks ex ns i p l h = grind (arith, common_steps, bit_at-zero)

-- a node at rest is as a pass leaves it
pub rest-passed : (old new : List Known) (ex : List ℕ) (ns : List Node) (k : ℕ)
    → known_at new k ≡ known_at old k → IsAtRest new ex ns k → IsPassedAt old new ex ns k
rest-passed old new ex ns k e h =
    rw (← e) (still-reduction _ (known_at new k) (forward_node new (node_at ns k)) h.closed h.still)

-- where all nodes are at rest, a pass changes nothing
pub rest-pass : (ks : List Known) (ex : List ℕ) (ns : List Node) → length ks ≡ length ns
    → ((i : ℕ) → i < length ns → IsAtRest ks ex ns i) → IsPass ks ks ex ns
rest-pass ks ex ns count rest = record { count = count; each = λ k l. rest-passed ks ks ex ns k refl (rest k l) }

-- what a pass leaves of a node depends on what it leaves of older ones
pub passed-same : (old new js : List Known) (ex : List ℕ) (ns : List Node) (k : ℕ) → IsPool ns → k < length ns
    → ((j : ℕ) → j ≤ k → known_at new j ≡ known_at js j) → IsPassedAt old new ex ns k → IsPassedAt old js ex ns k
passed-same old new js ex ns k p l same h =
    rw (
      forward-same new js k (node_at ns k) (operands-below ns k p l) (λ j b. same j (omega arith)),
      same k (omega arith),
    ) at h

-- two passes leave the same of each node, up to one that only the second has come to
pub same-up_to : (old a b : List Known) (ex : List ℕ) (ns : List Node) → IsPool ns → (m : ℕ) → m ≤ length ns
    → ((k : ℕ) → k < m → IsPassedAt old a ex ns k) → ((k : ℕ) → k < m → IsPassedAt old b ex ns k) → (k : ℕ) → k < m
    → known_at a k ≡ known_at b k
same-up_to old a b ex ns p m l h g = by-older (λ k. known_at a k ≡ known_at b k) m (λ k lk before.
    let older = forward-same a b k (node_at ns k) (operands-below ns k p (omega arith)) before in
    one-reduction _ _ (known_at a k) (known_at b k) (rw older at (h k lk)) (g k lk))

-- there is one pass at most
pub one-pass : (old a b : List Known) (ex : List ℕ) (ns : List Node) → IsPool ns → IsPass old a ex ns
    → IsPass old b ex ns → a ≡ b
one-pass old a b ex ns p h g =
    ext_get_or (known_of 0 0 0 0) a b (h.count ∙ sym g.count)
    (λ k l. same-up_to old a b ex ns p (length ns) (omega arith) h.each g.each k (omega (arith, h.count)))

-- where a pass fails at a node, there is none
pub pass-none : (old last : List Known) (ex : List ℕ) (ns : List Node) → IsPool ns → PassFails old ex ns
    → ¬ IsPass old last ex ns
pass-none old last ex ns p w pass =
    let i = w.place in let l = w.within in
    let older = forward-same last w.new i (node_at ns i) (operands-below ns i p l)
    (same-up_to old last w.new ex ns p i (omega arith) (λ k b. pass.each k (omega arith)) w.before) in
    let r = rw older at (pass.each i l) in
    w.none (known_at last i) r.is r.narrower

-- kinds that are the same have the same reductions
module _ (kind other : Known → Type 0) (to : (k : Known) → kind k → other k) (from : (k : Known) → other k → kind k)
    (old : Known) where
  pub reduction-as : (o : Option Known) → MatchOption o (HasNone kind old) (IsWidest kind old)
      → MatchOption o (HasNone other old) (IsWidest other old)
  reduction-as None h = λ k is n. h k (from k is) n
  reduction-as (Some r) h = grind (arith, common_steps)
