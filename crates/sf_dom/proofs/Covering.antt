-- Facts of which nothing more follows cover their pool: constants are known, and so are operations on decided operands.
use Rattle.sf_dom.proofs.Common.{ℕ, ◌<◌, ◌≤◌, ◌^◌, ◌+◌, ◌-◌, List, length, arith, ◌⊎◌, inl, inr, Some, BinOp, Add, Sub, Or, And, Xor, OperandsBelow, node_at, Node, Bin, Neg, Known, IsNarrower, IsDecided, known_of, FactsView, known_at, Covers, AreClosed, forward_known, forward_negated, forward_node, IsClosed, IsPropagatedBack, GoingBackGives, KeepsDecided, AreDecidedOperands, closed-consistent, nat_tests}
use Rattle.sf_dom.proofs.BackLaws.{back-still}
use Rattle.sf_dom.proofs.Bits.{bits-le}
use Rattle.sf_dom.proofs.forward.ForwardLemmas.{or-forced, and-forced, xor-forced}
use Rattle.sf_dom.proofs.Passes.{operands-below, one-number}

-- once it is closed, it has only one number
abbrev IsForced : Known → Type 0
IsForced k = (k.high ≤ k.low) ⊎ (4294967295 ≤ k.zeros + k.ones)

-- what is known of an operation on one number each
number-forced : (op : BinOp) (x y : ℕ) → KeepsDecided op → x < 2 ^ 32 → y < 2 ^ 32
    → IsForced (forward_known op (known_of x x (4294967295 - x) x) (known_of y y (4294967295 - y) y))
unfolding forward_known
number-forced Or x y k fx fy = inr (or-forced x y fx fy)
number-forced And x y k fx fy = inr (and-forced x y fx fy)
number-forced Xor x y k fx fy = inr (xor-forced x y fx fy)
number-forced Add x y k fx fy = grind (arith, nat_tests)
number-forced Sub x y k fx fy = grind (arith, nat_tests)
number-forced op x y k fx fy = elim k [ ]

forced : (op : BinOp) (a b : Known) → KeepsDecided op → IsClosed a → IsClosed b → IsDecided a → IsDecided b
    → IsForced (forward_known op a b)
forced op a b k ca cb da db =
    rw (one-number a (closed-consistent a ca) da, one-number b (closed-consistent b cb) db)
    (number-forced op a.low b.low k (omega (arith, ca.fits, da)) (omega (arith, cb.fits, db)))

negated-forced : (a : Known) → IsClosed a → IsDecided a → IsForced (forward_negated a)
unfolding forward_negated
negated-forced a h d = let f = h.fits in grind (arith, nat_tests)

-- what narrows it has one number
narrows-forced : (r k : Known) → IsForced r → IsNarrower r k → IsClosed k → IsDecided k
narrows-forced r k (inl f) n h = omega (arith, n.low, n.high, h.ordered)
narrows-forced r k (inr f) n h =
    omega (arith, bits-le r.zeros k.zeros n.zeros, bits-le r.ones k.ones n.ones, h.low, h.high, h.ordered)

-- an operation on decided operands is decided
rest-decided : (ks : List Known) (ns : List Node) (k : ℕ) (n : Node) → OperandsBelow k n
    → ((j : ℕ) → j < k → IsClosed (known_at ks j)) → AreDecidedOperands ks n → IsForced (forward_node ks n)
rest-decided ks ns k (Bin op a b) o h d =
    forced op (known_at ks a.0) (known_at ks b.0) d.0 (h a.0 o.0) (h b.0 o.1) d.1 d.2
rest-decided ks ns k (Neg a) o h d = negated-forced (known_at ks a.0) (h a.0 o) d
rest-decided ks ns k n o h d = elim d [ ]

-- where nothing more follows for any node, operations on decided operands are decided
pub results-decided : (f : FactsView) (ns : List Node) (i : ℕ) → Covers f ns → i < length ns
    → AreDecidedOperands f.known (node_at ns i) → IsDecided (known_at f.known i)
results-decided f ns i h l o =
    let r = h.rest i l in
    narrows-forced (forward_node f.known (node_at ns i)) (known_at f.known i) (rest-decided f.known ns i (node_at ns i)
    (operands-below ns i h.pool l) (λ j b. (h.rest j (omega arith)).closed.known) o) r.still r.closed.known

-- what facts of a pool know is closed
pub covers-closed : (f : FactsView) (ns : List Node) → Covers f ns → AreClosed f.known ns
covers-closed f ns h = record { count = h.count; each = λ i l. (h.rest i l).closed.known }

-- where the bits of a node are known of its operand, and so on, going back from it changes nothing
pub known-back : (f : FactsView) (ns : List Node) (i : ℕ) → Covers f ns → i < length ns
    → ((n : ℕ) → IsPropagatedBack n f.known ns i) → GoingBackGives f.known f.excluded ns i (Some f.known)
known-back f ns i h l w = back-still (length ns) f.known f.excluded ns i h.pool l l (λ j k. (h.rest j k).closed) w
