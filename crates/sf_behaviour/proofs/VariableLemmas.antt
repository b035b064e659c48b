-- The registers of a state, and their bits and those of the input as variables.
use Rattle.sf_behaviour.proofs.Common.{◌≡◌, ℕ, zero, suc, ◌<◌, List, length, length-set, replicate, Option, Some, None, refl, sym, ◌∙◌, arith, slice_set, get_or-set_same, get_or-set_other, State, start, IsRegister, register_number, next_with, slice_index_or, get_or_past, registers_of, ◌+◌, ◌-◌, ◌*◌, ◌/◌, ◌%◌, ◌≤◌, ◌==◌, ◌^◌, bit_at, Tree, Leaf, Fork, Bits, IsOrderedFrom, tree_at, input_by, register_by, with_register, IsTruthOf, IsOrderedTree, register_first, register_bit, nat_tests, number_by, input_by-same, number_by-bit, number_by-is, number_by-same}
use Rattle.sf_behaviour.proofs.BitLemmas.{literal-truth}

module _ {B : Type 0} where
  -- what stands in a list stands within it
  pub some-within : (xs : List (Option B)) (r : ℕ) (x : B) → slice_index_or xs r None ≡ Some x → r < length xs
  some-within xs r x e = grind (arith, get_or_past xs r None)

  -- nothing stands in a list of nothing
  pub none-there : (empty : Option B) (n k : ℕ) (x : B) → empty ≡ None
      → slice_index_or (replicate n empty) k None ≡ Some x
      → ⊥
  none-there empty zero k x is e = cc
  none-there empty (suc n) zero x is e = cc
  none-there empty (suc n) (suc k) x is e = none-there empty n k x is e

registers-set : (s : State) (r n : ℕ) → registers_of (next_with s r n) ≡ slice_set (registers_of s) r (Some n)
registers-set s r n = grind arith

-- what a register has after it was set
pub number-after : (s : State) (r n m : ℕ) → register_number (next_with s r n) r ≡ Some m → m ≡ n
number-after s r n m e =
    let set = registers-set s r n in
    let inside = some-within (slice_set (registers_of s) r (Some n)) r m in
    let long = length-set (registers_of s) r (Some n) in
    grind (arith, inside, long, set, get_or-set_same (registers_of s) r (Some n) None)

-- a register that is not set keeps its number
pub number-elsewhere : (s : State) (r q n : ℕ) → (q ≡ r → ⊥) → register_number (next_with s r n) q ≡ register_number s q
number-elsewhere s r q n ne = grind (arith, registers-set s r n, get_or-set_other (registers_of s) r q (Some n) None ne)

-- at the start all registers that have a number are 0
pub start-number : (r n : ℕ) → register_number start r ≡ Some n → n ≡ 0
start-number r n e = grind (arith, none-there {B = ℕ} None 16)

pub start-there : (r n : ℕ) → register_number start r ≡ Some n → IsRegister r
start-there r n e = some-within (registers_of start) r n e

-- ---- numbers by variables

-- a variable is that bit of the number
pub variable-truth : (first distance n : ℕ) (ts : List Tree) (id : ℕ) → n < 32 → id < length ts
    → tree_at ts id ≡ Fork (first + distance * (31 - n)) (Leaf 0) (Leaf 1)
    → IsTruthOf ts id (λ bits. bit_at (number_by first distance 32 bits) n)
variable-truth first distance n ts id l within e =
    let h = literal-truth ts id (first + distance * (31 - n)) within e in
    record { truth = h.truth; values = λ bits. h.values bits ∙ sym (number_by-bit first distance 32 bits n l) }

-- ---- ordered trees

-- a tree whose first fork is from variable n on
pub ordered-from : (n : ℕ) {t : Tree} {v : ℕ} {l h : Tree} → t ≡ Fork v l h → IsOrderedTree t → n ≤ v
    → IsOrderedFrom n t
ordered-from n e ordered more = grind arith

-- ---- variables of registers

bit-none : (r v : ℕ) → (v / 64 ≡ r / 2 → v % 2 ≡ r % 2 → ⊥) → register_bit r v ≡ None
bit-none r v never = grind (arith, nat_tests)

-- the variable of a bit, by its pair of registers and its turn
turns : (q b j : ℕ) → b < 2 → j < 32 → ((64 * q + b + 2 * j) / 64 ≡ q) × ((64 * q + b + 2 * j) % 2 ≡ b)
    × ((64 * q + b + 2 * j) % 64 / 2 ≡ j)
turns q b j lb lj = (omega arith, omega arith, omega arith)

-- a register's own variables
own-bit : (r i : ℕ) → i < 32 → register_bit r (register_first r + 2 * (31 - i)) ≡ Some i
own-bit r i l = grind (arith, nat_tests, turns (r / 2) (r % 2) (31 - i) (omega arith) (omega arith))

-- those of another register
other-bit : (r q i : ℕ) → i < 32 → (q ≡ r → ⊥) → register_bit r (register_first q + 2 * (31 - i)) ≡ None
other-bit r q i l ne =
    let h = turns (q / 2) (q % 2) (31 - i) (omega arith) (omega arith) in
    bit-none r (register_first q + 2 * (31 - i)) (λ pair turn. ne (omega (arith, h.0, h.1)))

-- the variables behind those of registers
pub past-registers : (r v : ℕ) → IsRegister r → 576 ≤ v → register_bit r v ≡ None
past-registers r v there l = bit-none r v (λ pair turn. omega arith)

-- ---- variables with a register replaced

pub with-own : (r n i v : ℕ) (bits : Bits) → register_bit r v ≡ Some i → with_register r n bits v ≡ (bit_at n i == 1)
with-own r n i v bits e = rw e refl

pub with-other : (r n v : ℕ) (bits : Bits) → register_bit r v ≡ None → with_register r n bits v ≡ bits v
with-other r n v bits e = rw e refl

-- the register has the number then
pub with-register-own : (r n : ℕ) (bits : Bits) → n < 2 ^ 32 → register_by r (with_register r n bits) ≡ n
with-register-own r n bits small =
    number_by-is (register_first r) 2 n (with_register r n bits) small
    (λ i l. with-own r n i (register_first r + 2 * (31 - i)) bits (own-bit r i l))

-- no other register is changed
pub with-register-other : (r q n : ℕ) (bits : Bits) → (q ≡ r → ⊥)
    → register_by q (with_register r n bits) ≡ register_by q bits
with-register-other r q n bits ne =
    number_by-same (register_first q) 2 32 (with_register r n bits) bits
    (λ i l. with-other r n (register_first q + 2 * (31 - i)) bits (other-bit r q i l ne))

-- nor is the input
pub with-register-input : (r n : ℕ) (bits : Bits) → IsRegister r → input_by (with_register r n bits) ≡ input_by bits
with-register-input r n bits there =
    input_by-same (with_register r n bits) bits
    (λ p l. with-other r n (576 + p) bits (past-registers r (576 + p) there (omega arith)))
