-- Operations on a node and a constant.
use Rattle.std.specs.Prelude.{ℕ, List, Option, Some, None}
use Rattle.sf_sym.specs.Common.{BinOp, Or, And, Xor, Node, Bin}
use Rattle.sf_sym.specs.Pool.{node_at, constant_number}

-- an operation that works bit by bit, whose operands may be swapped
abbrev pub IsSwappable : BinOp → Type 0
IsSwappable Or = Unit {0}
IsSwappable And = Unit {0}
IsSwappable Xor = Unit {0}
IsSwappable _ = ⊥

-- where exactly one of two operands is a constant: the operation, the place of the other operand and the constant
abbrev pub one_constant : BinOp → ℕ → ℕ → Option ℕ → Option ℕ → Option (BinOp × ℕ × ℕ)
one_constant op a b None (Some c) = Some (op, a, c)
one_constant op a b (Some c) None = Some (op, b, c)
one_constant op a b _ _ = None

-- where exactly one operand of a node is a constant: the operation, the place of the other operand and the constant
abbrev pub constant_operand_of : List Node → Node → Option (BinOp × ℕ × ℕ)
constant_operand_of ns (Bin op a b) = one_constant op a.0 b.0 (constant_number (node_at ns a.0))
    (constant_number (node_at ns b.0))
constant_operand_of ns _ = None
