-- Which rows an input lies in, and their numbers; trees of answers and of changes, which test words of inputs only.
use Rattle.sf_rows.proofs.Common.{◌≡◌, ℕ, zero, suc, ◌+◌, ◌-◌, ◌*◌, ◌/◌, ◌%◌, ◌^◌, ◌<◌, ◌≤◌, ◌==◌, Bool, List, refl, sym, ap, ap₂, ◌∙◌, arith, true, false, inl, inr, ◌≢◌, Some, None, ◌&&◌, count_by, slice_index, if◌then◌else◌, Contains, not, Option, bit_at, list_all, bit_at-lt, eqb-true, cases_eq, cond-false, cond-true, eq-eqb, ne_eqb, cases_lt, Input, IsInput, Insn, Answer, Answers, one, returns_of, Tree, Bits, value, IsOrderedTree, IsReducedTree, Leaf, Fork, IsOrderedFrom, merged_of, pair_of, input_bits, words_in_order, input_by, answer_with, low_number, word_number, behind, EndsBefore, bit-if, low-more, ordered-weaker, form_has, ConditionData, RowData, is_in_row, meets, NamesData, Relation, same-input, operation_of, not-0-related, one-number, related-differ, related-not-0, lies_in, tree_word, AreAskedFor, IsAnswersTree, IsTreeOf, change_number, IsInputTree, unnamed_number, fun_ext, get_or-le-sum_by, not-false, value_from}

-- a variable of an input is a bit of one of its words
bit-there : (d : Input) (w n : ℕ) → n < 32 → input_bits d (32 * w + (31 - n)) ≡ (bit_at (tree_word d w) n == 1)
bit-there d w n l =
    let place : (32 * w + (31 - n) - 576) / 32 ≡ w - 18 = omega arith in
    let bit : 31 - (32 * w + (31 - n)) % 32 ≡ n = omega arith in
    ap₂ (λ (m j : ℕ). bit_at (slice_index d.words (slice_index words_in_order m)) j == 1) place bit

low-is : (d : Input) (w n : ℕ) → n ≤ 32 → low_number w n (input_bits d) ≡ tree_word d w % 2 ^ n
unfolding low_number
low-is d w zero l = omega arith
low-is d w (suc n) l =
    rw (bit-there d w n (omega arith), low-is d w n (omega arith), bit-if _ (bit_at-lt (tree_word d w) n))
    (low-more (tree_word d w) n)

-- the variables of an input make its numbers
pub word-is : (d : Input) (w : ℕ) → IsInput d → word_number w (input_bits d) ≡ tree_word d w
word-is d w h =
    let small : tree_word d w % 2 ^ 32 ≡ tree_word d w = omega (arith, h.each (slice_index words_in_order (w - 18))) in
    low-is d w 32 (omega arith) ∙ small

-- an input lies in a row where its variables do
pub in-is : (d : Input) → IsInput d → (r : RowData) → lies_in d r ≡ is_in_row (input_bits d) r
in-is d h r =
    let same : (λ (c : ConditionData). form_has c.form (tree_word d c.word)) ≡ meets (input_bits d)
    = fun_ext (λ c. ap (form_has c.form) (sym (word-is d c.word h))) in
    ap (λ (p : ConditionData → Bool). list_all p r.conditions) same

pub count-is : (d : Input) → IsInput d → (rows : List RowData)
    → count_by (lies_in d) rows ≡ count_by (is_in_row (input_bits d)) rows
count-is d h rows = ap (λ (p : RowData → Bool). count_by p rows) (fun_ext (in-is d h))

one-here : (b : Bool) → (if b then 1 else 0) ≤ 0 → b ≡ false
one-here true l = absurd (omega arith)
one-here false l = refl

-- where none passes a test, an element doesn't
pub none-counted : {X : Type 0} (p : X → Bool) (xs : List X) (x : X) → count_by p xs ≡ 0 → Contains xs x
    → p x ≡ false
none-counted {X} p xs x none there =
    one-here (p x) (rw (there.2, none) at
    (get_or-le-sum_by (λ (z : X). if p z then 1 else 0) xs there.0 x there.1))

-- a row that has an input, and that isn't one of those with another number, has the number
pub number-of : (bits : Bits) (v : ℕ) (r : RowData) → is_in_row bits r ≡ true
    → (is_in_row bits r && not (r.number == v)) ≡ false → r.number ≡ v
number-of bits v r lies other = eqb-true r.number v (not-false (r.number == v) (rw lies at other))

-- a tree has on each input the value of what comes behind the number that the input has in a word
abbrev pub LeadOn : Type 0
LeadOn = (word : ℕ) (t : Tree) (bits : Bits) → value t bits ≡ value (behind word t (word_number word bits)) bits

-- an input of a call has the value of what comes behind the call
pub value-of-call : (t : Tree) (bits : Bits) (arch number : ℕ) → LeadOn → word_number 18 bits ≡ arch
    → word_number 19 bits ≡ number → value (behind 19 (behind 18 t arch) number) bits ≡ value t bits
value-of-call t bits arch number lead a n =
    sym (rw (a, n) at (lead 18 t bits ∙ lead 19 (behind 18 t (word_number 18 bits)) bits))

-- ---- trees of answers

-- each input has variables
abbrev pub HaveVariables : Type 0
HaveVariables = (d : Input) → IsInput d → input_by (input_bits d) ≡ d

-- variables have an input
abbrev pub AreInputs : Type 0
AreInputs = (bits : Bits) → IsInput (input_by bits)

-- ordered reduced trees with one value on each input are one
abbrev pub AreOneTree : Type 0
AreOneTree = (s t : Tree) → IsOrderedTree s → IsReducedTree s → IsOrderedTree t → IsReducedTree t
    → ((bits : Bits) → value s bits ≡ value t bits) → s ≡ t

-- the tree of answers has the answer on an input
pub has-answer : (programs : List (List Insn)) (t : Tree) (d : Input) (a : Answer) → HaveVariables
    → IsAnswersTree programs t → IsInput d → Answers programs d a → answer_with (value t (input_bits d)) ≡ a
has-answer programs t d a have is input answers =
    one (returns_of programs d) _ a (rw (have d input) at (is.answers (input_bits d))) answers

-- stacks that answer alike have one tree
pub one-answers-tree : (p q : List (List Insn)) (s t : Tree) → AreInputs → AreOneTree → IsAnswersTree p s
    → IsAnswersTree q t → ((d : Input) (a : Answer) → IsInput d → Answers p d a → Answers q d a) → s ≡ t
one-answers-tree p q s t inputs trees is also alike =
    trees s t is.ordered is.reduced also.ordered also.reduced (λ bits.
    one-number (value s bits) (value t bits) (is.small bits) (also.small bits)
    (one (returns_of q (input_by bits)) (answer_with (value s bits)) (answer_with (value t bits))
    (alike (input_by bits) (answer_with (value s bits)) (inputs bits) (is.answers bits)) (also.answers bits)))

-- trees with the same values are one
pub one-tree-of : (f : Bits → ℕ) (s t : Tree) → AreOneTree → IsTreeOf f s → IsTreeOf f t → s ≡ t
one-tree-of f s t trees is also =
    trees s t is.ordered is.reduced also.ordered also.reduced (λ bits. is.values bits ∙ sym (also.values bits))

-- ---- what changes

-- the number of an input whose answers are asked for is that of both
pub asked-number : (only : Option Relation) (m n : ℕ) → m < 2 ^ 32 → n < 2 ^ 32
    → AreAskedFor only (answer_with m) (answer_with n) → (m ≢ n) × (change_number only m n ≡ pair_of m n)
asked-number None m n lm ln h = (λ e. h (ap answer_with e), refl)
asked-number (Some r) m n lm ln h = (
  λ e. related-differ r (answer_with m) (answer_with n) h (ap answer_with e),
  cond-false (merged_of (operation_of r) m n == 0) 0 (pair_of m n)
      (ne_eqb (merged_of (operation_of r) m n) 0 (related-not-0 r m n lm ln h)),
)

-- and of another input it is 0
pub unasked-number : (only : Option Relation) (m n : ℕ) → m < 2 ^ 32 → n < 2 ^ 32
    → (AreAskedFor only (answer_with m) (answer_with n) → ⊥) → change_number only m n ≡ 0
unasked-number None m n lm ln h = elim (cases_eq m n) [
  | inl e ↦ cond-true (m == n) 0 (m % 2 ^ 32 * 2 ^ 32 + n % 2 ^ 32) (eq-eqb m n e)
  | inr other ↦ absurd (h (λ e. other (one-number m n lm ln e)))
]
unasked-number (Some r) m n lm ln h = elim (cases_eq (merged_of (operation_of r) m n) 0) [
  | inl e ↦ cond-true (merged_of (operation_of r) m n == 0) 0 (pair_of m n)
      (eq-eqb (merged_of (operation_of r) m n) 0 e)
  | inr other ↦ absurd (h (not-0-related r m n lm ln other))
]

-- ---- trees that depend on an input only

-- two inputs have the same variables of words
abbrev pub Agree : Bits → Bits → Type 0
Agree a b = (v : ℕ) → 576 ≤ v → v < 1088 → a v ≡ b v

-- the value of a tree depends on these variables only
abbrev pub Reads : Tree → Type 0
Reads t = (a b : Bits) → Agree a b → value t a ≡ value t b

-- ---- one variable

-- an input with one variable set to b
abbrev with_bit : Bits → ℕ → Bool → Bits
with_bit bits v b w = if w == v then b else bits w

with_bit-same : (bits : Bits) (v : ℕ) (b : Bool) → with_bit bits v b v ≡ b
with_bit-same bits v b = cond-true (v == v) b (bits v) (eq-eqb v v refl)

with_bit-other : (bits : Bits) (v : ℕ) (b : Bool) (w : ℕ) → w ≢ v → with_bit bits v b w ≡ bits w
with_bit-other bits v b w h = cond-false (w == v) b (bits w) (ne_eqb w v h)

-- a variable above a tree does not matter to it
value-above : (t : Tree) (n v : ℕ) (b : Bool) (bits : Bits) → IsOrderedFrom n t → v < n
    → value t (with_bit bits v b) ≡ value t bits
value-above t n v b bits o l =
    value_from t n o (with_bit bits v b) bits
    (λ w from. with_bit-other bits v b w (λ e. absurd (omega (arith, e, from))))

-- with its variable set, a fork has the value of its side
value-set : (v : ℕ) (p q : Tree) (bits : Bits) (x : Bool) → IsOrderedFrom (suc v) p → IsOrderedFrom (suc v) q
    → value (Fork v p q) (with_bit bits v x) ≡ (if x then value q bits else value p bits)
value-set v p q bits x op oq =
    rw (with_bit-same bits v x) (ap₂ (λ (m k : ℕ). if x then m else k)
    (value-above q (suc v) v x bits oq (omega arith)) (value-above p (suc v) v x bits op (omega arith)))

agree-set : (a b : Bits) (v : ℕ) (x : Bool) → Agree a b → Agree (with_bit a v x) (with_bit b v x)
agree-set a b v x agree w from below = ap (λ (y : Bool). if w == v then x else y) (agree w from below)

-- a variable that is none of a word may be set at will
agree-outside : (a : Bits) (v : ℕ) (x y : Bool) → (576 ≤ v → v < 1088 → ⊥) → Agree (with_bit a v x) (with_bit a v y)
agree-outside a v x y outside w from below =
    let other : w ≢ v = λ e. outside (omega (arith, e, from)) (omega (arith, e, below)) in
    with_bit-other a v x w other ∙ sym (with_bit-other a v y w other)

-- ---- which variables a tree tests

-- the sides of a fork differ, so its variable is one of a word
not-outside : (v : ℕ) (p q : Tree) → AreOneTree → IsOrderedFrom (suc v) p → IsOrderedFrom (suc v) q
    → IsReducedTree (Fork v p q) → Reads (Fork v p q) → (576 ≤ v → v < 1088 → ⊥) → ⊥
not-outside v p q trees op oq r reads outside =
    r.0 (trees p q (ordered-weaker p 0 (suc v) op (omega arith)) r.1 (ordered-weaker q 0 (suc v) oq (omega arith)) r.2
    (λ x. sym (value-set v p q x false op oq)
    ∙ reads (with_bit x v false) (with_bit x v true) (agree-outside x v false true outside)
    ∙ value-set v p q x true op oq))

within : (t : Tree) (n : ℕ) → AreOneTree → IsOrderedFrom n t → IsReducedTree t → Reads t → IsInputTree t
within (Leaf c) n trees o r reads = record { begins = tt; ends = tt }
within (Fork v p q) n trees o r reads = record {
  begins = (
    elim (cases_lt v 576) [
      | inl l ↦ absurd (not-outside v p q trees o.1 o.2 r reads (λ from _. absurd (omega arith)))
      | inr l ↦ l
    ],
    o.1,
    o.2,
  );
  ends = (
    elim (cases_lt v 1088) [
      | inl l ↦ l
      | inr l ↦ absurd (not-outside v p q trees o.1 o.2 r reads (λ _ below. absurd (omega arith)))
    ],
    (within p (suc v) trees o.1 r.1 (λ a b agree. sym (value-set v p q a false o.1 o.2)
        ∙ reads (with_bit a v false) (with_bit b v false) (agree-set a b v false agree)
        ∙ value-set v p q b false o.1 o.2)).ends,
    (within q (suc v) trees o.2 r.2 (λ a b agree. sym (value-set v p q a true o.1 o.2)
        ∙ reads (with_bit a v true) (with_bit b v true) (agree-set a b v true agree)
        ∙ value-set v p q b true o.1 o.2)).ends,
  );
}

-- an ordered reduced tree that depends on an input only is one over inputs
pub input-tree : (t : Tree) → AreOneTree → IsOrderedTree t → IsReducedTree t → Reads t → IsInputTree t
input-tree t trees o r reads = within t 0 trees o r reads

reads-from : (t : Tree) (n : ℕ) → 576 ≤ n → IsOrderedFrom n t → EndsBefore 1088 t → Reads t
reads-from (Leaf c) n le o h a b agree = refl
reads-from (Fork v p q) n le o h a b agree =
    ap (λ (x : Bool). if x then value q a else value p a) (agree v (omega (arith, le, o.0)) h.0)
    ∙ ap₂ (λ (m k : ℕ). if b v then m else k) (reads-from q (suc v) (omega (arith, le, o.0)) o.2 h.2 a b agree)
    (reads-from p (suc v) (omega (arith, le, o.0)) o.1 h.1 a b agree)

-- and back
pub reads : (t : Tree) → IsInputTree t → Reads t
reads t h = reads-from t 576 (omega arith) h.begins h.ends

-- ---- what depends on an input

low-same : (word n : ℕ) (a b : Bits) → 18 ≤ word → word < 34 → n ≤ 32 → Agree a b
    → low_number word n a ≡ low_number word n b
unfolding low_number
low-same word zero a b from below l agree = refl
low-same word (suc n) a b from below l agree =
    rw (agree (32 * word + (31 - n)) (omega arith) (omega arith), low-same word n a b from below (omega arith) agree)

-- the tree of answers is one over inputs
pub answers-input : (programs : List (List Insn)) (t : Tree) → AreInputs → AreOneTree → IsAnswersTree programs t
    → IsInputTree t
answers-input programs t inputs trees is =
    input-tree t trees is.ordered is.reduced (λ a b agree.
    one-number (value t a) (value t b) (is.small a) (is.small b)
    (one (returns_of programs (input_by b)) (answer_with (value t a)) (answer_with (value t b))
    (rw (same-input a b inputs (λ p l. agree (576 + p) (omega arith) (omega (arith, l)))) at (is.answers a))
    (is.answers b)))

-- so is that of what changes
pub change-input : (only : Option Relation) (s t u : Tree) → AreOneTree → IsInputTree s → IsInputTree t
    → IsTreeOf (λ bits. change_number only (value s bits) (value t bits)) u → IsInputTree u
change-input only s t u trees hs ht is =
    input-tree u trees is.ordered is.reduced (λ a b agree. is.values a
    ∙ rw (reads s hs a b agree, reads t ht a b agree) (sym (is.values b)))

-- and that of calls without a name
pub unnamed-input : (sets : List NamesData) (hidden : ℕ) (t rest : Tree) → AreOneTree → IsInputTree t
    → IsTreeOf (unnamed_number sets hidden t) rest → IsInputTree rest
unnamed-input sets hidden t rest trees h is =
    input-tree rest trees is.ordered is.reduced (λ a b agree. is.values a
    ∙ rw (
      low-same 18 32 a b (omega arith) (omega arith) (omega arith) agree,
      low-same 19 32 a b (omega arith) (omega arith) (omega arith) agree,
      reads t h a b agree,
    ) (sym (is.values b)))
