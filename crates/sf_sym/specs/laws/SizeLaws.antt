-- The values of nodes are words.
use Rattle.std.proofs.lemmas.Grind.{common_steps}
use Rattle.std.proofs.Common.{ℕ, zero, suc, ◌%◌, ◌<◌, ◌^◌, List, [], ◌∷◌, ◌++◌, arith}
use Rattle.std.specs.Prelude.{slice_index}
use Rattle.std.proofs.Math.Nat.{div-le_self}
use Rattle.std.proofs.lemmas.Nat.{or_lt, xor_lt, and_le_r}
use Rattle.sf_sym.specs.Common.{Input, IsInput, apply, BinOp, Add, Sub, Mul, Div, Or, And, Lsh, Rsh, Xor, Node, Const, Word, Bin, Neg}
use Rattle.sf_sym.specs.Pool.{OperandsBelow, AreOrdered, IsPool, node_value, values_after, value_of}

-- what an operation gives of two words is a word
pub apply-small : (op : BinOp) (a b : ℕ) → a < 2 ^ 32 → b < 2 ^ 32 → apply op a b < 2 ^ 32
apply-small Add a b p q = omega arith
apply-small Sub a b p q = omega arith
apply-small Mul a b p q = omega arith
apply-small Div a b p q = grind (arith, common_steps, div-le_self)
apply-small Or a b p q = or_lt 32 a b p q
apply-small And a b p q = omega (arith, and_le_r a b)
apply-small Lsh a b p q = omega arith
apply-small Rsh a b p q = omega (arith, div-le_self a (2 ^ (b % 32)))
apply-small Xor a b p q = xor_lt 32 a b p q

-- every number of a list is a word
pub AreWords : List ℕ → Type 0
AreWords xs = (i : ℕ) → slice_index xs i < 2 ^ 32

node-small : (d : Input) (older : List ℕ) (k : ℕ) (n : Node) → IsInput d → AreWords older → OperandsBelow k n
    → node_value d older n < 2 ^ 32
unfolding AreWords
node-small d older k (Const c) i w o = o
node-small d older k (Word j) i w o = i.each j
node-small d older k (Bin op a b) i w o = apply-small op (slice_index older a.0) (slice_index older b.0) (w a.0) (w b.0)
node-small d older k (Neg a) i w o = omega arith

push-words : (xs : List ℕ) (v : ℕ) → AreWords xs → v < 2 ^ 32 → AreWords (xs ++ v ∷ [])
unfolding AreWords
push-words [] v w l zero = l
push-words [] v w l (suc i) = w i
push-words (x ∷ xs) v w l zero = w zero
push-words (x ∷ xs) v w l (suc i) = push-words xs v (λ j. w (suc j)) l i

values-small : (d : Input) (older : List ℕ) (k : ℕ) (ns : List Node) → IsInput d → AreWords older → AreOrdered k ns
    → AreWords (values_after d older ns)
values-small d older k [] i w o = w
values-small d older k (n ∷ ns) i w o = values-small d (older ++ node_value d older n ∷ []) (suc k) ns i
    (push-words older (node_value d older n) w (node-small d older k n i w o.0)) o.1

no-words : AreWords []
unfolding AreWords
no-words i = omega arith

-- the value of a node is a word
pub value-small : (ns : List Node) (d : Input) (i : ℕ) → IsPool ns → IsInput d → value_of ns d i < 2 ^ 32
unfolding AreWords
value-small ns d i p h = values-small d [] 0 ns h no-words p.ordered i
