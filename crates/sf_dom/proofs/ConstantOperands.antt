-- The one constant operand of a node.
use Rattle.sf_dom.proofs.Common.{◌≡◌, ℕ, ◌<◌, ◌^◌, List, [], length, arith, refl, ap, ◌∙◌, and_comm, or_comm, xor_comm, Option, Some, None, apply, Input, BinOp, Or, And, Xor, IsPool, OperandsBelow, node_at, node_value, values_of, value_of, constant_number, IsSwappable, one_constant, constant_operand_of, value-node, value-constant, constant_number-is, Node, Bin}
use Rattle.sf_dom.proofs.Passes.{operands-below}

-- what exactly one constant operand of a node says: its operation, the value of the node, and that the operand is older
pub record IsOperand (ns : List Node) (at : ℕ) (o : BinOp × ℕ × ℕ) : Type 0 where
  pub older : o.1 < at
  pub fits : o.2 < 2 ^ 32
  pub value : (d : Input) → IsSwappable o.0 → value_of ns d at ≡ apply o.0 (value_of ns d o.1) o.2

swapped : (op : BinOp) (a b : ℕ) → IsSwappable op → apply op a b ≡ apply op b a
swapped Or a b s = or_comm a b
swapped And a b s = and_comm a b
swapped Xor a b s = xor_comm a b
swapped op a b s = elim s [ ]

-- a constant of a pool
constant-is : (ns : List Node) (d : Input) (i c : ℕ) → IsPool ns → i < length ns
    → constant_number (node_at ns i) ≡ Some c → (c < 2 ^ 32) × (value_of ns d i ≡ c)
constant-is ns d i c p l e =
    let is = constant_number-is (node_at ns i) c e in
    (rw is at (operands-below ns i p l), value-constant ns d i c p l is)

one-operand : (ns : List Node) (at : ℕ) (op : BinOp) (a b : ℕ) (x y : Option ℕ) (o : BinOp × ℕ × ℕ) → a < at → b < at
    → ((c : ℕ) → x ≡ Some c → (c < 2 ^ 32) × ((d : Input) → value_of ns d a ≡ c))
    → ((c : ℕ) → y ≡ Some c → (c < 2 ^ 32) × ((d : Input) → value_of ns d b ≡ c))
    → ((d : Input) → value_of ns d at ≡ apply op (value_of ns d a) (value_of ns d b))
    → one_constant op a b x y ≡ Some o → IsOperand ns at o
one-operand ns at op a b None (Some c) o la lb hx hy v e =
    let clash : Some (op, a, c) ≡ Some o = e in
    let same : (op, a, c) ≡ o = cc in let k = hy c refl in
    rw (← same) (record { older = la; fits = k.0; value = λ d s. v d ∙ ap (apply op (value_of ns d a)) (k.1 d) })
one-operand ns at op a b (Some c) None o la lb hx hy v e =
    let clash : Some (op, b, c) ≡ Some o = e in
    let same : (op, b, c) ≡ o = cc in let k = hx c refl in
    rw (← same) (record {
      older = lb;
      fits = k.0;
      value = λ d s. v d ∙ ap (λ n. apply op n (value_of ns d b)) (k.1 d) ∙ swapped op c (value_of ns d b) s;
    })
one-operand ns at op a b None None o la lb hx hy v e = let clash : None ≡ Some o = e in absurd cc
one-operand ns at op a b (Some c) (Some k) o la lb hx hy v e = let clash : None ≡ Some o = e in absurd cc

operand-of : (ns : List Node) (at : ℕ) (n : Node) (o : BinOp × ℕ × ℕ) → IsPool ns → at < length ns → OperandsBelow at n
    → ((d : Input) → value_of ns d at ≡ node_value d (values_of ns d) n) → constant_operand_of ns n ≡ Some o
    → IsOperand ns at o
operand-of ns at (Bin op a b) o p l h v e =
    let la = h.0 in let lb = h.1 in
    one-operand ns at op a.0 b.0 (constant_number (node_at ns a.0)) (constant_number (node_at ns b.0)) o la lb
    (λ c f. let d : Input = record { words = [] } in
    ((constant-is ns d a.0 c p (omega arith) f).0, (λ i. (constant-is ns i a.0 c p (omega arith) f).1)))
    (λ c f. let d : Input = record { words = [] } in
    ((constant-is ns d b.0 c p (omega arith) f).0, (λ i. (constant-is ns i b.0 c p (omega arith) f).1))) v e
operand-of ns at n o p l h v e = let clash : None ≡ Some o = e in absurd cc

pub is-operand : (ns : List Node) (at : ℕ) (o : BinOp × ℕ × ℕ) → IsPool ns → at < length ns
    → constant_operand_of ns (node_at ns at) ≡ Some o → IsOperand ns at o
is-operand ns at o p l e = operand-of ns at (node_at ns at) o p l (operands-below ns at p l)
    (λ d. value-node ns d at p l) e
