-- The words of an input. The 32 variables of a word are those from 32 times its number on, its highest bit first.
use Rattle.std.specs.Prelude.{ℕ, zero, suc, ◌+◌, ◌-◌, ◌*◌, ◌/◌, ◌%◌, ◌^◌, ◌<◌, ◌==◌, ◌&&◌, Bool, false, bit_or, if◌then◌else◌}
use Rattle.std.specs.Int.{bit_at}
use Rattle.sf_diagram.specs.Trees.{Tree, Leaf, Fork, Bits}

-- the number that the lowest n bits of a word make
unfoldable pub low_number : ℕ → ℕ → Bits → ℕ
low_number word zero bits = 0
low_number word (suc n) bits = (if bits (32 * word + (31 - n)) then 1 else 0) * 2 ^ n + low_number word n bits

-- the number that an input has in a word
abbrev pub word_number : ℕ → Bits → ℕ
word_number word bits = low_number word 32 bits

-- whether a tree begins with a test of the word
abbrev pub is_in : ℕ → Tree → Bool
is_in word (Leaf number) = false
is_in word (Fork variable lower higher) = variable / 32 == word

-- what comes behind a word where its number is n
abbrev pub behind : ℕ → Tree → ℕ → Tree
behind word (Leaf number) n = Leaf number
behind word (Fork variable lower higher) n =
    if variable / 32 == word
    then (if bit_at n (31 - variable % 32) == 1 then behind word higher n else behind word lower n)
    else Fork variable lower higher

-- what comes next where a bit is not set, and where it is
abbrev pub lower_at : ℕ → Tree → Tree
lower_at bit (Leaf number) = Leaf number
lower_at bit (Fork variable lower higher) = if variable % 32 + bit == 31 then lower else Fork variable lower higher

abbrev pub higher_at : ℕ → Tree → Tree
higher_at bit (Leaf number) = Leaf number
higher_at bit (Fork variable lower higher) = if variable % 32 + bit == 31 then higher else Fork variable lower higher

-- the bits of the word that are tested
abbrev pub tested : ℕ → Tree → ℕ
tested word (Leaf number) = 0
tested word (Fork variable lower higher) =
    if variable / 32 == word
    then bit_or (bit_or (2 ^ (31 - variable % 32)) (tested word lower)) (tested word higher)
    else 0

-- how often the word is tested, counted along each way
abbrev pub test_count : ℕ → Tree → ℕ
test_count word (Leaf number) = 0
test_count word (Fork variable lower higher) =
    if variable / 32 == word then 1 + test_count word lower + test_count word higher else 0

-- each variable of the tree is below a limit
abbrev pub EndsBefore : ℕ → Tree → Type 0
EndsBefore limit (Leaf number) = Unit {0}
EndsBefore limit (Fork variable lower higher) = (variable < limit) × EndsBefore limit lower × EndsBefore limit higher

-- two trees are one
abbrev pub is_same_tree : Tree → Tree → Bool
is_same_tree (Leaf a) (Leaf b) = a == b
is_same_tree (Leaf a) (Fork w r s) = false
is_same_tree (Fork v p q) (Leaf b) = false
is_same_tree (Fork v p q) (Fork w r s) = (v == w) && (is_same_tree p r && is_same_tree q s)
