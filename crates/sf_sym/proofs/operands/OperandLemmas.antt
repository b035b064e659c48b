-- The value of an operation on a node and a constant.
use Rattle.sf_sym.proofs.Common.{◌≡◌, ℕ, ◌<◌, List, length, arith, or_comm, and_comm, xor_comm, apply, Input, BinOp, Or, And, Xor, IsPool, node_at, value_of, IsSwappable, value-node, value-constant, Node, NodeId, Const, Bin}

-- operands are swapped
pub apply-swap : (op : BinOp) (a b : ℕ) → IsSwappable op → apply op a b ≡ apply op b a
apply-swap Or a b s = or_comm a b
apply-swap And a b s = and_comm a b
apply-swap Xor a b s = xor_comm a b
apply-swap _ a b s = elim s [ ]

-- the value of a node whose second operand is a constant
pub value-right : (ns : List Node) (d : Input) (i : ℕ) (op : BinOp) (a b : NodeId) (c : ℕ) → IsPool ns → i < length ns
    → b.0 < length ns
    → node_at ns i ≡ Bin op a b → node_at ns b.0 ≡ Const c → value_of ns d i ≡ apply op (value_of ns d a.0) c
value-right ns d i op a b c p l lb e k = search (arith, value-node, value-constant)

-- the value of a node whose first operand is a constant
pub value-left : (ns : List Node) (d : Input) (i : ℕ) (op : BinOp) (a b : NodeId) (c : ℕ) → IsPool ns → i < length ns
    → a.0 < length ns → IsSwappable op
    → node_at ns i ≡ Bin op a b → node_at ns a.0 ≡ Const c → value_of ns d i ≡ apply op (value_of ns d b.0) c
value-left ns d i op a b c p l la s e k = search (arith, value-node, apply-swap, value-constant)
