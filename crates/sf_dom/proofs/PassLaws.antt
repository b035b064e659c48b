-- A forward pass is a lawful step, and after it nothing more follows for any node.
use Rattle.sf_dom.proofs.Common.{ℕ, ◌<◌, ◌≤◌, ◌^◌, ◌-◌, ◌*◌, ◌/◌, ◌%◌, List, length, arith, or_lt, pow_pos, pow-lt, div-le_self, and_lt, Option, Some, None, MatchOption, IfSome, bit_and, bit_or, slice_index, IsInput, Input, BinOp, Or, And, Lsh, Rsh, Xor, IsPool, OperandsBelow, node_at, node_value, values_of, value_of, value-node, Node, Const, Word, Bin, Neg, Known, Admits, known_at, AgreesWith, moved_left, moved_right, met, forward_known, forward_negated, forward_node, IsClosed, ReductionGives, IsPassedAt, PassGives, IsAtRest, AreClosed, IsNarrowed, constant-admits, common_steps, nat_tests, value-small}
use Rattle.sf_dom.proofs.Lawful.{IsLawful, AnyInput, met-admits, closed-zeros, closed-ones, kept-at, reduction-holds}
use Rattle.sf_dom.proofs.Passes.{operands-below, met-left, met-right}
use Rattle.sf_dom.proofs.Reductions.{IsNarrower-trans}
use Rattle.sf_dom.proofs.RuleLaws.{forward-sound, negate-sound, full-admits}
use Rattle.sf_dom.proofs.Then.{by-older}

-- the known zeros are those of a word
left-fits : (a : Known) (s : ℕ) → s < 32 → (moved_left a s).zeros < 2 ^ 32
left-fits a s l =
    let p : 2 ^ s < 2 ^ 32 = pow-lt l in
    let z : bit_or (a.zeros * 2 ^ s % 2 ^ 32) (2 ^ s - 1) < 2 ^ 32
    = or_lt 32 (a.zeros * 2 ^ s % 2 ^ 32) (2 ^ s - 1) (omega arith) (omega arith) in
    grind (arith, nat_tests)

right-fits : (a : Known) (s : ℕ) → IsClosed a → (moved_right a s).zeros < 2 ^ 32
right-fits a s h =
    let p : 0 < 2 ^ (32 - s) = pow_pos (32 - s) in
    or_lt 32 (a.zeros / 2 ^ s) (2 ^ 32 - 2 ^ (32 - s)) (omega (arith, div-le_self a.zeros (2 ^ s), closed-zeros a h))
    (omega arith)

forward-fits : (op : BinOp) (a b : Known) → IsClosed a → IsClosed b → (forward_known op a b).zeros < 2 ^ 32
unfolding forward_known
forward-fits Or a b h k = and_lt 32 a.zeros b.zeros (closed-zeros a h) (closed-zeros b k)
forward-fits And a b h k = or_lt 32 a.zeros b.zeros (closed-zeros a h) (closed-zeros b k)
forward-fits Xor a b h k = or_lt 32 (bit_and a.zeros b.zeros) (bit_and a.ones b.ones)
    (and_lt 32 a.zeros b.zeros (closed-zeros a h) (closed-zeros b k))
    (and_lt 32 a.ones b.ones (closed-ones a h) (closed-ones b k))
forward-fits Lsh a b h k = let z = left-fits a (b.low % 32) (omega arith) in grind (arith, nat_tests)
forward-fits Rsh a b h k = let z = right-fits a (b.low % 32) h in grind (arith, nat_tests)
forward-fits op a b h k = grind (arith, nat_tests)

negated-fits : (a : Known) → (forward_negated a).zeros < 2 ^ 32
unfolding forward_negated
negated-fits a = grind (arith, nat_tests)

-- what follows for a node admits its value, where what is known of its operands admits theirs
pub follows : (ks : List Known) (d : Input) (vs : List ℕ) (k : ℕ) (n : Node) → IsInput d → OperandsBelow k n
    → ((j : ℕ) → j < k → IsClosed (known_at ks j)) → ((j : ℕ) → j < k → Admits (known_at ks j) (slice_index vs j))
    → Admits (forward_node ks n) (node_value d vs n) × ((forward_node ks n).zeros < 2 ^ 32)
follows ks d vs k (Const c) i o closed h = (constant-admits c o, omega arith)
follows ks d vs k (Word w) i o closed h = (full-admits (slice_index d.words w) (i.each w), omega arith)
follows ks d vs k (Bin op a b) i o closed h =
    let ca = closed a.0 o.0 in let cb = closed b.0 o.1 in (
      forward-sound op (known_at ks a.0) (known_at ks b.0) (slice_index vs a.0) (slice_index vs b.0) ca.fits cb.fits
          (h a.0 o.0) (h b.0 o.1),
      forward-fits op (known_at ks a.0) (known_at ks b.0) ca cb,
    )
follows ks d vs k (Neg a) i o closed h =
    let ca = closed a.0 o in
    (negate-sound (known_at ks a.0) (slice_index vs a.0) ca.fits (h a.0 o), negated-fits (known_at ks a.0))

-- A forward pass from what is known of a pool's nodes, where an input agrees.
module _ (old : List Known) (ex : List ℕ) (ns : List Node) (d : Input) (p : IsPool ns) (h : AreClosed old ns)
    (i : IsInput d) (a : AgreesWith old ex ns d) where
  -- what it leaves of a node admits its value
  leaves-value : (new : List Known) (k : ℕ) → k < length ns → ((j : ℕ) → j < k → IsClosed (known_at new j))
      → ((j : ℕ) → j < k → Admits (known_at new j) (value_of ns d j)) → (o : Option Known)
      → ReductionGives ex k (met (known_at old k) (forward_node new (node_at ns k))) o
      → MatchOption o ⊥ (λ r. Admits r (value_of ns d k))
  leaves-value new k l closed older o g =
      let f = follows new d (values_of ns d) k (node_at ns k) i (operands-below ns k p l) closed older in
      let own : Known = known_at old k in let rule : Known = forward_node new (node_at ns k) in
      let here : k < length old = omega (arith, h.count, l) in
      reduction-holds o ex k (value_of ns d k) (met own rule) (value-small ns d k p i)
      (or_lt 32 own.zeros rule.zeros (closed-zeros own (h.each k l)) f.1) (λ b. kept-at old ex ns d k p here a b)
      (met-admits own rule (value_of ns d k) (a k here).admitted (rw (value-node ns d k p l) f.0)) g

  passed-holds : (new : List Known) (m : ℕ) → m ≤ length ns → ((k : ℕ) → k < m → IsPassedAt old new ex ns k)
      → (k : ℕ) → k < m → Admits (known_at new k) (value_of ns d k)
  passed-holds new m lm passed = by-older (λ k. Admits (known_at new k) (value_of ns d k)) m (λ k lk older.
      leaves-value new k (omega arith) (λ j s. (passed j (omega arith)).is.known) older (Some (known_at new k))
      (passed k lk))

  pass-sound : (r : Option (List Known)) → PassGives old ex ns r → MatchOption r ⊥ (λ next. AgreesWith next ex ns d)
  pass-sound (Some new) w =
      let count = h.count in let after = w.count in
      λ k l. record {
        admitted = passed-holds new (length ns) (omega arith) w.each k (omega arith);
        kept = (a k (omega arith)).kept;
      }
  pass-sound None w =
      let within = w.within in
      leaves-value w.new w.place within (λ j s. (w.before j s).is.known)
      (passed-holds w.new w.place (omega arith) w.before) None w.none

pass-narrowed : (old : List Known) (ex : List ℕ) (ns : List Node) → IsPool ns → AreClosed old ns
    → (r : Option (List Known)) → PassGives old ex ns r → IfSome r (λ next. IsNarrowed old next ex ns)
pass-narrowed old ex ns p h None w = tt
pass-narrowed old ex ns p h (Some new) w = grind (arith, common_steps, met-left, IsNarrower-trans)

-- a forward pass is a lawful step
pub pass-lawful : (ks : List Known) (ex : List ℕ) (ns : List Node) → IsPool ns → AreClosed ks ns
    → IsLawful AnyInput ks ex ns (PassGives ks ex ns)
pass-lawful ks ex ns p h = record {
  narrowed = pass-narrowed ks ex ns p h;
  sound = λ d i t a. pass-sound ks ex ns d p h i a;
}

-- what a pass gives is at rest
pub pass-rest : (ks : List Known) (ex : List ℕ) (ns : List Node) (r : Option (List Known)) → PassGives ks ex ns r
    → IfSome r (λ next. (i : ℕ) → i < length ns → IsAtRest next ex ns i)
pass-rest ks ex ns None w = tt
pass-rest ks ex ns (Some new) w = grind (arith, common_steps, met-right, IsNarrower-trans)
