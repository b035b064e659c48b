-- A node as a pool keeps it has the value of the node, and its operands are in the pool.
use Rattle.sf_sym.proofs.Common.{◌≡◌, ◌≢◌, ℕ, ◌<◌, ◌^◌, List, [], ◌∷◌, ◌++◌, length, Option, Some, None, refl, arith, Input, BinOp, apply, negation_of, OperandsBelow, IsPool, node_at, node_value, values_of, value_of, constant_number, combined_node, negated_node, folded_node, apply-small, constant_number-is, value-constant, OperandsBelow-at, IsPool-push, Node, Bin, Neg, NodeId}

-- a constant of a pool is a word
constant-small : (ns : List Node) (i x : ℕ) → IsPool ns → i < length ns
    → constant_number (node_at ns i) ≡ Some x → x < 2 ^ 32
constant-small ns i x p h e = rw (constant_number-is (node_at ns i) x e) at (OperandsBelow-at 0 ns i p.ordered h)

combined_node-value : (ns : List Node) (d : Input) (op : BinOp) (a b : NodeId) → IsPool ns → a.0 < length ns
    → b.0 < length ns
    → (x y : Option ℕ) → constant_number (node_at ns a.0) ≡ x → constant_number (node_at ns b.0) ≡ y
    → node_value d (values_of ns d) (combined_node op a b x y) ≡ apply op (value_of ns d a.0) (value_of ns d b.0)
combined_node-value ns d op a b p k l (Some x) (Some y) e f =
    rw (
      value-constant ns d a.0 x p k (constant_number-is (node_at ns a.0) x e),
      value-constant ns d b.0 y p l (constant_number-is (node_at ns b.0) y f),
    ) refl
combined_node-value ns d op a b p k l _ _ e f = refl

negated_node-value : (ns : List Node) (d : Input) (a : NodeId) → IsPool ns → a.0 < length ns
    → (x : Option ℕ) → constant_number (node_at ns a.0) ≡ x → node_value d (values_of ns d) (negated_node a x)
    ≡ negation_of (value_of ns d a.0)
negated_node-value ns d a p k (Some x) e =
    rw (value-constant ns d a.0 x p k (constant_number-is (node_at ns a.0) x e)) refl
negated_node-value ns d a p k None e = refl

pub folded_node-value : (ns : List Node) (d : Input) (node : Node) → IsPool ns → OperandsBelow (length ns) node
    → node_value d (values_of ns d) (folded_node ns node) ≡ node_value d (values_of ns d) node
folded_node-value ns d (Bin op a b) p o = combined_node-value ns d op a b p o.0 o.1 (constant_number (node_at ns a.0))
    (constant_number (node_at ns b.0)) refl refl
folded_node-value ns d (Neg a) p o = negated_node-value ns d a p o (constant_number (node_at ns a.0)) refl
folded_node-value ns d _ p o = refl

combined_node-operands : (ns : List Node) (op : BinOp) (a b : NodeId) → IsPool ns → a.0 < length ns → b.0 < length ns
    → (x y : Option ℕ) → constant_number (node_at ns a.0) ≡ x → constant_number (node_at ns b.0) ≡ y
    → OperandsBelow (length ns) (combined_node op a b x y)
combined_node-operands ns op a b p k l (Some x) (Some y) e f =
    apply-small op x y (constant-small ns a.0 x p k e) (constant-small ns b.0 y p l f)
combined_node-operands ns op a b p k l _ _ e f = (k, l)

negated_node-operands : (ns : List Node) (a : NodeId) → a.0 < length ns → (x : Option ℕ)
    → OperandsBelow (length ns) (negated_node a x)
negated_node-operands ns a k (Some x) = omega arith
negated_node-operands ns a k None = k

folded_node-operands : (ns : List Node) (node : Node) → IsPool ns → OperandsBelow (length ns) node
    → OperandsBelow (length ns) (folded_node ns node)
folded_node-operands ns (Bin op a b) p o = combined_node-operands ns op a b p o.0 o.1 (constant_number (node_at ns a.0))
    (constant_number (node_at ns b.0)) refl refl
folded_node-operands ns (Neg a) p o = negated_node-operands ns a o (constant_number (node_at ns a.0))
folded_node-operands ns _ p o = o

-- a pool with one more node, as it keeps it, is a pool where it hadn't that node
pub pushed-lawful : (ns : List Node) (node : Node) → IsPool ns → OperandsBelow (length ns) node
    → ((i : ℕ) → i < length ns → node_at ns i ≢ folded_node ns node) → IsPool (ns ++ folded_node ns node ∷ [])
pushed-lawful ns node p o none = IsPool-push ns (folded_node ns node) p (folded_node-operands ns node p o) none
