-- That known bits go back from a node is a lawful step.
use Rattle.sf_dom.proofs.Common.{◌≡◌, ℕ, zero, suc, ◌<◌, ◌^◌, ◌-◌, List, length, set, arith, refl, ◌⊎◌, inl, inr, or_lt, and_lt, Option, Some, None, bit_and, set-get_or, apply, BinOp, Or, And, Xor, IsPool, node_at, value_of, IsSwappable, constant_operand_of, Node, Known, Admits, HasBits, IsNarrower, known_of, known_at, IsClosed, IsClosedAt, AreClosed, with_bits, gained, WritingGives, GoingBackGivesIn, GoingBackGives, IsPropagatedBack, common_steps, Then}
use Rattle.sf_dom.proofs.RuleLaws.{again}
use Rattle.sf_dom.proofs.ConstantOperands.{IsOperand, is-operand}
use Rattle.sf_dom.proofs.Bits.{join-bits, bits-of-or, backward-and, backward-or, backward-xor}
use Rattle.sf_dom.proofs.Lawful.{IsLawful, AnyInput, narrowed-refl, writing-lawful, closed-zeros, closed-ones, then-lawful}
use Rattle.sf_dom.proofs.Reductions.{IsNarrower-refl}

-- ---- known bits that go back from a node to its operands

-- where an operand gains nothing, what is propagated back from it is propagated back from its node
pub back-step : (ks : List Known) (ns : List Node) (at x c : ℕ) (op : BinOp)
    → constant_operand_of ns (node_at ns at) ≡ Some (op, x, c)
    → gained op c (known_at ks at) (known_at ks x) ≡ known_at ks x → ((n : ℕ) → IsPropagatedBack n ks ns x) → (n : ℕ)
    → IsPropagatedBack n ks ns at
back-step ks ns at x c op e h more zero = tt
back-step ks ns at x c op e h more (suc n) = rw e (λ s. (h, more n))

-- where bits have gone back from a node, its operand gains nothing, and they have gone back from it
pub back-on : (ks : List Known) (ns : List Node) (at x c : ℕ) (op : BinOp)
    → constant_operand_of ns (node_at ns at) ≡ Some (op, x, c) → IsSwappable op
    → ((n : ℕ) → IsPropagatedBack n ks ns at) → (n : ℕ)
    → (gained op c (known_at ks at) (known_at ks x) ≡ known_at ks x) × IsPropagatedBack n ks ns x
back-on ks ns at x c op e s h n = (rw e at (h (suc n))) s

-- backward propagation ends at a node of which not exactly one operand is a constant
pub goes_back-end : (ks : List Known) (ns : List Node) (at : ℕ) → constant_operand_of ns (node_at ns at) ≡ None
    → (n : ℕ) → IsPropagatedBack n ks ns at
goes_back-end ks ns at e zero = tt
goes_back-end ks ns at e (suc n) = rw e tt

-- backward propagation ends at an operation that hands on no bits
pub goes_back-other : (ks : List Known) (ns : List Node) (at x c : ℕ) (op : BinOp)
    → constant_operand_of ns (node_at ns at) ≡ Some (op, x, c)
    → ¬ IsSwappable op → (n : ℕ) → IsPropagatedBack n ks ns at
goes_back-other ks ns at x c op e never zero = tt
goes_back-other ks ns at x c op e never (suc n) = rw e (λ s. absurd (never s))

more-bits : (k : Known) (z o : ℕ) → IsNarrower k (with_bits k z o)
more-bits k z o = grind (arith, common_steps, bits-of-or)

-- an operand loses nothing
pub gained-narrower : (op : BinOp) (c : ℕ) (node x : Known) → IsNarrower x (gained op c node x)
gained-narrower And c node x = more-bits x _ _
gained-narrower Or c node x = more-bits x _ _
gained-narrower Xor c node x = more-bits x _ _
gained-narrower op c node x = IsNarrower-refl x

-- its bits stay within a word
gained-zeros : (op : BinOp) (c : ℕ) (node x : Known) → c < 2 ^ 32 → IsClosed node → IsClosed x
    → (gained op c node x).zeros < 2 ^ 32
gained-zeros And c node x f h k = or_lt 32 x.zeros (bit_and node.zeros c) (closed-zeros x k)
    (and_lt 32 node.zeros c (closed-zeros node h) f)
gained-zeros Or c node x f h k = or_lt 32 x.zeros node.zeros (closed-zeros x k) (closed-zeros node h)
gained-zeros Xor c node x f h k = or_lt 32 x.zeros _ (closed-zeros x k)
    (or_lt 32 (bit_and node.zeros (4294967295 - c)) (bit_and node.ones c)
    (and_lt 32 node.zeros (4294967295 - c) (closed-zeros node h) (omega arith))
    (and_lt 32 node.ones c (closed-ones node h) f))
gained-zeros op c node x f h k = closed-zeros x k

with-admits : (k : Known) (z o n : ℕ) → Admits k n → HasBits n z o → Admits (with_bits k z o) n
with-admits k z o n h b = record { above = h.above; below = h.below; bits = join-bits n k.zeros k.ones z o h.bits b }

-- and it admits each number that it has
gained-admits : (op : BinOp) (c : ℕ) (node x : Known) (n : ℕ) → IsSwappable op → c < 2 ^ 32 → Admits x n
    → Admits node (apply op n c) → Admits (gained op c node x) n
gained-admits And c node x n s f h k = with-admits x _ _ n h (backward-and n c node.zeros node.ones k.bits)
gained-admits Or c node x n s f h k = with-admits x _ _ n h (backward-or n c node.zeros node.ones f k.bits)
gained-admits Xor c node x n s f h k = with-admits x _ _ n h (backward-xor n c node.zeros node.ones f k.bits)
gained-admits op c node x n s f h k = elim s [ ]

-- one step back
step-lawful : (ks : List Known) (ex : List ℕ) (ns : List Node) (at : ℕ) (o : BinOp × ℕ × ℕ) → IsPool ns
    → AreClosed ks ns → at < length ns → IsSwappable o.0 → IsOperand ns at o
    → IsLawful AnyInput ks ex ns (WritingGives ks ex o.1 (gained o.0 o.2 (known_at ks at) (known_at ks o.1)))
step-lawful ks ex ns at o p h l s is =
    let here : o.1 < length ns = omega arith in
    writing-lawful AnyInput ks ex ns o.1 (gained o.0 o.2 (known_at ks at) (known_at ks o.1)) p h here
    (gained-narrower o.0 o.2 (known_at ks at) (known_at ks o.1))
    (gained-zeros o.0 o.2 (known_at ks at) (known_at ks o.1) is.fits (h.each at l) (h.each o.1 here))
    (λ d i t a. gained-admits o.0 o.2 (known_at ks at) (known_at ks o.1) (value_of ns d o.1) s is.fits
    (a o.1 (omega arith)).admitted (rw (is.value d s) at (a at (omega arith)).admitted))

back-in : (n : ℕ) (ks : List Known) (ex : List ℕ) (ns : List Node) (at : ℕ) → IsPool ns → AreClosed ks ns
    → at < length ns → IsLawful AnyInput ks ex ns (GoingBackGivesIn n ks ex ns at)
back-in zero ks ex ns at p h l =
    record { narrowed = λ r w. rw w.1 (narrowed-refl ks ex ns h); sound = λ d i t a r w. rw w.1 a }
back-in (suc n) ks ex ns at p h l =
    let step = on (λ next k i b. back-in n next ex ns i p k b) in
    record {
      narrowed = λ r w. (step w.0 w.1 w.2).narrowed r w.3;
      sound = λ d i t a r w. (step w.0 w.1 w.2).sound d i t a r w.3;
    }
  where
    on : ((next : List Known) → AreClosed next ns → (i : ℕ) → i < length ns
        → IsLawful AnyInput next ex ns (GoingBackGivesIn n next ex ns i)) → (o : BinOp × ℕ × ℕ)
        → constant_operand_of ns (node_at ns at) ≡ Some o → IsSwappable o.0 → IsLawful AnyInput ks ex ns
        (Then (WritingGives ks ex o.1 (gained o.0 o.2 (known_at ks at) (known_at ks o.1)))
        (λ next s. GoingBackGivesIn n next ex ns o.1 s))
    on more o e s =
        let is = is-operand ns at o p l e in let older = is.older in
        then-lawful AnyInput AnyInput ks ex ns
        (WritingGives ks ex o.1 (gained o.0 o.2 (known_at ks at) (known_at ks o.1)))
        (λ next s. GoingBackGivesIn n next ex ns o.1 s) h (λ d t a. tt) (step-lawful ks ex ns at o p h l s is)
        (λ next k. more next k o.1 (omega arith))

-- that known bits go back from a node is a lawful step
pub back-lawful : (ks : List Known) (ex : List ℕ) (ns : List Node) (at : ℕ) → IsPool ns → AreClosed ks ns
    → at < length ns → IsLawful AnyInput ks ex ns (GoingBackGives ks ex ns at)
back-lawful ks ex ns at p h l = record {
  narrowed = λ r w. (back-in w.0 ks ex ns at p h l).narrowed r w.1;
  sound = λ d i t a r w. (back-in w.0 ks ex ns at p h l).sound d i t a r w.1;
}

is-swappable : (op : BinOp) → IsSwappable op ⊎ ¬ IsSwappable op
is-swappable Or = inl tt
is-swappable And = inl tt
is-swappable Xor = inl tt
is-swappable op = inr (λ s. s)

-- known bits go on, or they end
goes-or-ends : (o : Option (BinOp × ℕ × ℕ)) → ((p : BinOp × ℕ × ℕ) × (o ≡ Some p) × IsSwappable p.0)
    ⊎ ((p : BinOp × ℕ × ℕ) → o ≡ Some p → ¬ IsSwappable p.0)
goes-or-ends None = inr (λ p e s. let clash : None ≡ Some p = e in absurd cc)
goes-or-ends (Some o) = elim (is-swappable o.0) [
  | inl swap ↦ inl (o, refl, swap)
  | inr never ↦ inr (λ p e s. let clash : Some o ≡ Some p = e in let same : o ≡ p = cc in never (rw same s))
]

-- where its operand gains nothing, and so on, going back from a node changes nothing
pub back-still : (m : ℕ) (ks : List Known) (ex : List ℕ) (ns : List Node) (at : ℕ) → IsPool ns → at < m
    → at < length ns → ((i : ℕ) → i < length ns → IsClosedAt ex i (known_at ks i))
    → ((n : ℕ) → IsPropagatedBack n ks ns at) → GoingBackGives ks ex ns at (Some ks)
back-still zero ks ex ns at p l li closed back = absurd (omega arith)
back-still (suc m) ks ex ns at p l li closed back = elim (goes-or-ends (constant_operand_of ns (node_at ns at))) [
  | inr ends ↦ (0, (ends, refl))
  | inl q ↦
      let o = q.0 in let e = q.1 in let swap = q.2 in
      let older = (is-operand ns at o p li e).older in
      let on = back-on ks ns at o.1 o.2 o.0 e swap back in
      let rest = back-still m ks ex ns o.1 p (omega arith) (omega arith) closed (λ n. (on n).1) in
      let left = again (IsClosedAt ex o.1) (known_at ks o.1) (closed o.1 (omega arith)) in (
        suc rest.0,
        (
          o,
          e,
          swap,
          (
            Some (set ks o.1 (known_at ks o.1)),
            (Some (known_at ks o.1), rw (on 0).0 left, refl),
            rw (set-get_or ks o.1 (known_of 0 0 0 0)) rest.1,
          ),
        ),
      )
]
