-- How known bits go back from a node to its operand, and on to that one's operand, where the other operand is a
-- constant.
use Rattle.std.specs.Prelude.{◌≡◌, ℕ, zero, suc, ◌-◌, List, set, Option, Some, bit_and, bit_or}
use Rattle.sf_dom.specs.Common.{BinOp, Or, And, Xor, node_at, IsSwappable, constant_operand_of, Node, Known}
use Rattle.sf_dom.specs.Known.{known_of}
use Rattle.sf_dom.specs.Reading.{known_at}
use Rattle.sf_dom.specs.Rules.{ReductionGives, Then}

-- the same knowledge with more known bits
abbrev pub with_bits : Known → ℕ → ℕ → Known
with_bits k zeros ones = known_of k.low k.high (bit_or k.zeros zeros) (bit_or k.ones ones)

-- what is known of the operand x of a node `x op c`, with what it gains from the bits of the node
abbrev pub gained : BinOp → ℕ → Known → Known → Known
gained And c node x = with_bits x (bit_and node.zeros c) node.ones
gained Or c node x = with_bits x node.zeros (bit_and node.ones (4294967295 - c))
gained Xor c node x =
    with_bits x (bit_or (bit_and node.zeros (4294967295 - c)) (bit_and node.ones c))
    (bit_or (bit_and node.ones (4294967295 - c)) (bit_and node.zeros c))
gained _ c node x = x

-- what it gives to reduce this knowledge and to write it as what is known of the node at a place: the list with it, or
-- nothing where it contradicts itself
abbrev pub WritingGives : List Known → List ℕ → ℕ → Known → Option (List Known) → Type 0
WritingGives ks ex i known = Then (ReductionGives ex i known) (λ left r. r ≡ Some (set ks i left))

-- In n steps known bits go back from a node, from operand to operand, until a node is no AND, OR or XOR with exactly
-- one constant.
abbrev pub GoingBackGivesIn : ℕ → List Known → List ℕ → List Node → ℕ → Option (List Known) → Type 0
GoingBackGivesIn zero ks ex ns at r =
    ((o : BinOp × ℕ × ℕ) → constant_operand_of ns (node_at ns at) ≡ Some o → ¬ IsSwappable o.0) × (r ≡ Some ks)
GoingBackGivesIn (suc n) ks ex ns at r =
    (o : BinOp × ℕ × ℕ) × (constant_operand_of ns (node_at ns at) ≡ Some o) × IsSwappable o.0
    × Then (WritingGives ks ex o.1 (gained o.0 o.2 (known_at ks at) (known_at ks o.1)))
    (λ next s. GoingBackGivesIn n next ex ns o.1 s) r

-- what is known of all nodes after known bits have gone back from one; nothing where what is then known of an operand
-- contradicts itself
abbrev pub GoingBackGives : List Known → List ℕ → List Node → ℕ → Option (List Known) → Type 0
GoingBackGives ks ex ns at r = (n : ℕ) × GoingBackGivesIn n ks ex ns at r
