-- Diagrams of the inputs of named calls; the rows beside those of named calls; and that what is shown of a tree is one.
use Rattle.sf_rows.proofs.Common.{◌≡◌, ℕ, zero, suc, ◌+◌, ◌-◌, ◌*◌, ◌%◌, ◌^◌, ◌<◌, ◌==◌, Bool, true, false, List, [], ◌∷◌, length, map, refl, sym, ap, ap₂, ◌∙◌, arith, lit<, ◌≢◌, Some, None, ◌&&◌, ◌||◌, All, filter, not, if◌then◌else◌, Contains, Option, count_by, bit_at, list_any, Bor, cond-true, cond-false, eq-eqb, eqb-true, ne_eqb, All-head, All-tail, mod_below, pow_pos, bit_at-lt, Input, IsInput, Tree, Bits, value, KeepsTrees, tree_at, IsChosen, chosen_of, IsDiagramOf, input_bits, low_number, low-more, low-small, RowData, CallData, NamesData, is_call_number, IsTreeOf, is_named_call, unnamed_number, Subject, rows_of, hidden_number, tree_word, AreOthers, CallRowData, IsShown, ShownData, fun_ext, or-false, nat_tests, HasValues}
use Rattle.sf_rows.proofs.RowLemmas.{AreOneTree, none-counted, one-tree-of, word-is}

-- ---- diagrams by their values

pub diagram-kept : {ts us : List Tree} {id : ℕ} {f : Bits → ℕ} → KeepsTrees ts us → IsDiagramOf ts id f
    → IsDiagramOf us id f
diagram-kept {ts} {us} {id} k h = record {
  within = omega (arith, k.longer, h.within);
  values = λ bits. rw (k.same id h.within) (h.values bits);
}

pub diagram-same : (ts : List Tree) (id : ℕ) (f g : Bits → ℕ) → IsDiagramOf ts id f → ((bits : Bits) → f bits ≡ g bits)
    → IsDiagramOf ts id g
diagram-same ts id f g h same = record { within = h.within; values = λ bits. h.values bits ∙ same bits }

pub tree-diagram : (ts : List Tree) (id : ℕ) (t : Tree) → id < length ts → tree_at ts id ≡ t
    → IsDiagramOf ts id (λ bits. value t bits)
tree-diagram ts id t l e = record { within = l; values = λ bits. ap (λ (u : Tree). value u bits) e }

pub valued-diagram : {f : Bits → ℕ} (ts : List Tree) (id : ℕ) → id < length ts → HasValues (tree_at ts id) f
    → IsDiagramOf ts id f
valued-diagram ts id l h = record { within = l; values = h.values }

-- a diagram that chooses between two others
pub chosen-diagram : {ts us : List Tree} {test taken other id : ℕ} {f g h k : Bits → ℕ}
    → IsDiagramOf ts test f → IsDiagramOf ts taken g → IsDiagramOf ts other h → id < length us
    → IsChosen (tree_at ts test) (tree_at ts taken) (tree_at ts other) (tree_at us id)
    → ((bits : Bits) → chosen_of (f bits) (g bits) (h bits) ≡ k bits) → IsDiagramOf us id k
chosen-diagram df dg dh l chosen same = record {
  within = l;
  values = λ bits. chosen.values bits ∙ rw (df.values bits, dg.values bits, dh.values bits) (same bits);
}

-- ---- numbers by their bits

digits-same : (x y w r s : ℕ) → x < 2 → y < 2 → r < w → s < w
    → (x * w + r == y * w + s) ≡ ((x == y) && (r == s))
digits-same zero zero w r s lx ly lr ls = grind (arith, nat_tests)
digits-same (suc zero) (suc zero) w r s lx ly lr ls = grind (arith, nat_tests)
digits-same zero (suc zero) w r s lx ly lr ls = ne_eqb (0 * w + r) (1 * w + s) (λ h. absurd (omega arith))
digits-same (suc zero) zero w r s lx ly lr ls = ne_eqb (1 * w + r) (0 * w + s) (λ h. absurd (omega arith))
digits-same (suc (suc x)) y w r s lx ly lr ls = absurd (omega arith)
digits-same zero (suc (suc y)) w r s lx ly lr ls = absurd (omega arith)
digits-same (suc zero) (suc (suc y)) w r s lx ly lr ls = absurd (omega arith)

-- 1 for true, 0 for false
abbrev pub flag : Bool → ℕ
flag b = if b then 1 else 0

flag-small : (b : Bool) → (if b then 1 else 0) < 2
flag-small true = lit< tt
flag-small false = lit< tt

-- a number has the lowest bits of a word
abbrev pub agrees : ℕ → ℕ → Bits → ℕ → Bool
agrees word n bits m = m % 2 ^ n == low_number word n bits

-- one more bit agrees
agrees-more : (word n : ℕ) (bits : Bits) (m : ℕ) → agrees word (suc n) bits m
    ≡ ((bit_at m n == (if bits (32 * word + (31 - n)) then 1 else 0)) && agrees word n bits m)
unfolding low_number
agrees-more word n bits m =
    ap (λ (x : ℕ). x == (if bits (32 * word + (31 - n)) then 1 else 0) * 2 ^ n + low_number word n bits)
    (sym (low-more m n))
    ∙ digits-same (bit_at m n) (if bits (32 * word + (31 - n)) then 1 else 0) (2 ^ n) (m % 2 ^ n)
    (low_number word n bits) (bit_at-lt m n) (flag-small (bits (32 * word + (31 - n))))
    (mod_below m (2 ^ n) (pow_pos n)) (low-small word n bits)

-- ---- some number of a list

any-filter : (p q : ℕ → Bool) (xs : List ℕ) → list_any (λ x. p x && q x) xs ≡ list_any q (filter p xs)
any-filter p q [] = refl
any-filter p q (x ∷ xs) = by (p x) (any-filter p q xs)
  where
    by : (b : Bool) → list_any (λ y. p y && q y) xs ≡ list_any q (filter p xs)
        → ((b && q x) || list_any (λ y. p y && q y) xs) ≡ list_any q (if b then x ∷ filter p xs else filter p xs)
    by true more = ap (λ (c : Bool). q x || c) more
    by false more = more

bit-not : (b : ℕ) → b < 2 → (b == 0) ≡ not (b == 1)
bit-not zero l = refl
bit-not (suc zero) l = refl
bit-not (suc (suc b)) l = absurd (omega arith)

-- some number agrees in one more bit where one of those with the word's bit agrees
any-more : (word n : ℕ) (bits : Bits) (xs : List ℕ) → list_any (agrees word (suc n) bits) xs
    ≡ list_any (agrees word n bits) (filter (λ m. bit_at m n == flag (bits (32 * word + (31 - n)))) xs)
any-more word n bits xs =
    ap (λ (p : ℕ → Bool). list_any p xs) (fun_ext (agrees-more word n bits))
    ∙ any-filter (λ m. bit_at m n == flag (bits (32 * word + (31 - n)))) (agrees word n bits) xs

-- the numbers with a bit, or those without it, by the bit of the word
pub one-of-step : (word n k v : ℕ) (bits : Bits) (xs set unset : List ℕ) → set ≡ filter (λ m. bit_at m n == 1) xs
    → unset ≡ filter (λ m. not (bit_at m n == 1)) xs → v ≡ 32 * word + (31 - n) → k ≡ suc n
    → chosen_of (if bits v then 1 else 0) (if list_any (agrees word n bits) set then 1 else 0)
    (if list_any (agrees word n bits) unset then 1 else 0)
    ≡ (if list_any (agrees word k bits) xs then 1 else 0)
one-of-step word n k v bits xs set unset s u e f =
    rw (s, u, e, f) (by (bits (32 * word + (31 - n))) (any-more word n bits xs))
  where
    by : (b : Bool) → list_any (agrees word (suc n) bits) xs
        ≡ list_any (agrees word n bits) (filter (λ m. bit_at m n == flag b) xs) → chosen_of (flag b)
        (flag (list_any (agrees word n bits) (filter (λ m. bit_at m n == 1) xs)))
        (flag (list_any (agrees word n bits) (filter (λ m. not (bit_at m n == 1)) xs)))
        ≡ flag (list_any (agrees word (suc n) bits) xs)
    by true more = ap flag (sym more)
    by false more =
        let same : (λ (m : ℕ). bit_at m n == 0) ≡ (λ (m : ℕ). not (bit_at m n == 1))
        = fun_ext (λ m. bit-not (bit_at m n) (bit_at-lt m n)) in
        ap flag (sym (more ∙ ap (λ (p : ℕ → Bool). list_any (agrees word n bits) (filter p xs)) same))

-- where no bit is left, each number is one
pub one-of-all : (word k : ℕ) (bits : Bits) (xs : List ℕ) → k ≡ 0 → (length xs == 0) ≡ false
    → list_any (agrees word k bits) xs ≡ true
unfolding low_number
one-of-all word k bits [] e some = absurd (cc)
one-of-all word k bits (x ∷ xs) e some = rw (e, eq-eqb (x % 2 ^ 0) 0 (omega arith))

-- of no number, none is one
pub one-of-none : (word k : ℕ) (bits : Bits) (xs : List ℕ) → (length xs == 0) ≡ true
    → list_any (agrees word k bits) xs ≡ false
one-of-none word k bits [] none = refl
one-of-none word k bits (x ∷ xs) none =
    let empty : length (x ∷ xs) ≡ 0 = eqb-true (length (x ∷ xs)) 0 none in
    absurd (omega arith)

-- ---- calls of sets

any-small : (word : ℕ) (bits : Bits) (calls : List CallData)
    → All (λ (n : ℕ). n < 2 ^ 32) (map (λ (c : CallData). c.number) calls)
    → list_any (agrees word 32 bits) (map (λ (c : CallData). c.number) calls)
    ≡ list_any (is_call_number (low_number word 32 bits)) calls
any-small word bits [] small = refl
any-small word bits (c ∷ calls) small =
    let numbers = map (λ (x : CallData). x.number) calls in
    let fits : c.number % 2 ^ 32 ≡ c.number
    = omega (arith, All-head (λ (n : ℕ). n < 2 ^ 32) c.number numbers small) in
    rw (fits, any-small word bits calls (All-tail (λ (n : ℕ). n < 2 ^ 32) c.number numbers small))

both-flags : (a b : Bool) → chosen_of (if a then 1 else 0) (if b then 1 else 0) 0 ≡ (if a && b then 1 else 0)
both-flags true b = refl
both-flags false b = refl

-- the architecture is that of a set, and the number that of one of its calls
pub calls-step : (given arch : ℕ) (calls : List CallData) (numbers : List ℕ) (bits : Bits) → given < 2 ^ 32
    → given ≡ arch → numbers ≡ map (λ (c : CallData). c.number) calls → All (λ (n : ℕ). n < 2 ^ 32) numbers
    → chosen_of (if list_any (agrees 18 32 bits) (given ∷ []) then 1 else 0)
    (if list_any (agrees 19 32 bits) numbers then 1 else 0) 0
    ≡ (if (arch == low_number 18 32 bits) && list_any (is_call_number (low_number 19 32 bits)) calls then 1 else 0)
calls-step given arch calls numbers bits fits is are small =
    let whole : given % 2 ^ 32 ≡ arch = omega arith in
    rw (are, any-small 19 bits calls (rw are at small), whole, or-false (arch == low_number 18 32 bits))
    (both-flags (arch == low_number 18 32 bits) (list_any (is_call_number (low_number 19 32 bits)) calls))

pub named-step : (a b c : Bool) → c ≡ (b || a)
    → chosen_of (if a then 1 else 0) 1 (if b then 1 else 0) ≡ (if c then 1 else 0)
named-step true true c e = ap flag (sym e)
named-step true false c e = ap flag (sym e)
named-step false true c e = ap flag (sym e)
named-step false false c e = ap flag (sym e)

pub flag-chosen : (a : Bool) (x y : ℕ) → chosen_of (if a then 1 else 0) x y ≡ (if a then x else y)
flag-chosen true x y = refl
flag-chosen false x y = refl

-- ---- inputs beside those of named calls

-- what a tree without named calls says of an input
pub unnamed-on : (sets : List NamesData) (hidden : ℕ) (t : Tree) (d : Input) → IsInput d
    → unnamed_number sets hidden t (input_bits d)
    ≡ (if is_named_call sets (tree_word d 18) (tree_word d 19) then hidden else value t (input_bits d))
unnamed-on sets hidden t d input = rw (word-is d 18 input, word-is d 19 input)

abbrev counted : Bool → ℕ
counted b = if b then 0 else 1

pub other-count : (named : Bool) (v hidden w : ℕ) → v ≡ (if named then hidden else w)
    → counted (v == hidden) ≡ (if named then 0 else counted (w == hidden))
other-count true v hidden w e = cond-true (v == hidden) 0 1 (eq-eqb v hidden e)
other-count false v hidden w e = ap (λ (n : ℕ). counted (n == hidden)) e

pub other-number : (named : Bool) (v hidden w : ℕ) → v ≡ (if named then hidden else w) → v ≢ hidden → v ≡ w
other-number true v hidden w e other = absurd (other e)
other-number false v hidden w e other = e

-- where a row has an input, the tree hasn't the number that no row shows
pub not-hidden : (p : RowData → Bool) (rows : List RowData) (r : RowData) (v hidden : ℕ)
    → count_by p rows ≡ (if v == hidden then 0 else 1) → Contains rows r → p r ≡ true → v ≢ hidden
not-hidden p rows r v hidden count there lies e =
    let none : count_by p rows ≡ 0 = count ∙ cond-true (v == hidden) 0 1 (eq-eqb v hidden e) in
    let no : p r ≡ false = none-counted p rows r none there in
    absurd (cc)

-- ---- rows beside those of calls

pub others-none : (ws : List (Bor (List ℕ))) (s : Subject) (t : Tree) (sets : List NamesData) (rows : List RowData)
    → (length ws == 0) ≡ false → rows ≡ [] → AreOthers (map (λ w. w.now) ws) s t sets rows
others-none [] s t sets rows some e = absurd (cc)
others-none (w ∷ ws) s t sets rows some e = e

pub others-all : (ws : List (Bor (List ℕ))) (s : Subject) (t rest : Tree) (sets : List NamesData) (rows : List RowData)
    → (length ws == 0) ≡ true → IsTreeOf (unnamed_number sets (hidden_number s) t) rest → rows ≡ rows_of s rest
    → AreOthers (map (λ w. w.now) ws) s t sets rows
others-all [] s t rest sets rows none is e = (rest, is, e)
others-all (w ∷ ws) s t rest sets rows none is e =
    let empty : length (w ∷ ws) ≡ 0 = eqb-true (length (w ∷ ws)) 0 none in
    absurd (omega arith)

-- ---- what is shown

same-shown : (x y : ShownData) → x.calls ≡ y.calls → x.rows ≡ y.rows → x ≡ y
same-shown x y calls rows =
    ap₂ (λ (c : Option (List CallRowData)) (r : List RowData). let z : ShownData = record { calls = c; rows = r } in z)
    calls rows

pub shown-once : (calls : Option (List (List ℕ))) (s : Subject) (t : Tree) (sets : List NamesData) (x y : ShownData)
    → AreOneTree → IsShown calls s t sets x → IsShown calls s t sets y → x ≡ y
shown-once None s t sets x y trees first second = first ∙ sym second
shown-once (Some []) s t sets x y trees first second =
    same-shown x y (first.0 ∙ sym second.0)
    (first.1.2
    ∙ ap (rows_of s) (one-tree-of (unnamed_number sets (hidden_number s) t) first.1.0 second.1.0 trees
    first.1.1 second.1.1)
    ∙ sym second.1.2)
shown-once (Some (w ∷ ws)) s t sets x y trees first second =
    same-shown x y (first.0 ∙ sym second.0) (first.1 ∙ sym second.1)

-- ---- what changes

-- the second number where the first isn't 0
pub chosen-some : (n p : ℕ) → chosen_of n p 0 ≡ (if n == 0 then 0 else p)
chosen-some zero p = refl
chosen-some (suc n) p = sym (cond-false (suc n == 0) 0 p (ne_eqb (suc n) 0 (λ e. absurd (omega (arith, e)))))
