-- A tree that an operation makes of two others.
use Rattle.std.specs.Prelude.{ℕ}
use Rattle.sf_diagram.specs.Trees.{Tree, Bits, value, HasValues}
use Rattle.sf_diagram.specs.Operations.{merged_of}
use Rattle.sf_diagram.specs.declared.operation.Operation.{Operation}

-- what an operation makes of the values of two trees on an input
abbrev pub merged_value : Operation → Tree → Tree → Bits → ℕ
merged_value operation first second bits = merged_of operation (value first bits) (value second bits)

-- on each input the last tree has the number that the operation makes of the values of the other two
abbrev pub IsMerged : Operation → Tree → Tree → Tree → Type 0
IsMerged operation first second t = HasValues t (merged_value operation first second)
