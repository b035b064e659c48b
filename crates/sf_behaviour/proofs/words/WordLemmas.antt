-- Words by their bits, in stores that grow.
use Rattle.sf_behaviour.proofs.Common.{◌≡◌, ℕ, zero, suc, ◌+◌, ◌*◌, ◌<◌, ◌^◌, List, [], ◌∷◌, length, refl, sym, ap, ap₂, ◌∙◌, arith, slice_index, slice_set, bit_at, pow-suc, length-set, get_or-set_same, get_or-set_other, bit_at_cat_low, Tree, Bits, value, tree_at, KeepsTrees, chosen_of, word_value, IsTruth, IsTruthOf, IsWord, IsWordOf, ◌≢◌, get_or, bit_at_lowest, bit_at-suc, bit_at-zero, same_from_bits_below, top-bit}

-- ---- stores that grow

pub truth-kept : {ts us : List Tree} {id : ℕ} → KeepsTrees ts us → IsTruth ts id → IsTruth us id
truth-kept {id} k t = record {
  within = omega (arith, k.longer, t.within);
  small = λ bits. rw (k.same id t.within) (t.small bits);
}

pub value-kept : {ts us : List Tree} {id : ℕ} (bits : Bits) → KeepsTrees ts us → IsTruth ts id
    → value (tree_at us id) bits ≡ value (tree_at ts id) bits
value-kept {id} bits k t = ap (λ (u : Tree). value u bits) (k.same id t.within)

pub truth-of-kept : {ts us : List Tree} {id : ℕ} {f : Bits → ℕ} → KeepsTrees ts us → IsTruthOf ts id f
    → IsTruthOf us id f
truth-of-kept k h = record {
  truth = truth-kept k h.truth;
  values = λ bits. value-kept bits k h.truth ∙ h.values bits;
}

pub truth-of-same : {ts : List Tree} {id : ℕ} {f g : Bits → ℕ} → IsTruthOf ts id f → ((bits : Bits) → f bits ≡ g bits)
    → IsTruthOf ts id g
truth-of-same h same = record { truth = h.truth; values = λ bits. h.values bits ∙ same bits }

-- ---- lists of bits

abbrev AreTruths : List Tree → List ℕ → Type 0
AreTruths ts ids = (i : ℕ) → i < length ids → IsTruth ts (slice_index ids i)

list-kept : (ts us : List Tree) (ids : List ℕ) (bits : Bits) → KeepsTrees ts us → AreTruths ts ids
    → word_value us ids bits ≡ word_value ts ids bits
list-kept ts us [] bits k h = refl
list-kept ts us (id ∷ ids) bits k h =
    grind (arith, k.same id (h 0 (omega arith)).within, list-kept ts us ids bits k (λ i l. h (suc i) (omega arith)))

list-small : (ts : List Tree) (ids : List ℕ) (bits : Bits) → AreTruths ts ids → word_value ts ids bits < 2 ^ length ids
list-small ts [] bits h = omega arith
list-small ts (id ∷ ids) bits h =
    let rest = list-small ts ids bits (λ i l. h (suc i) (omega arith)) in
    omega (arith, (h 0 (omega arith)).small bits, rest, pow-suc 2 (length ids))

list-bit : (ts : List Tree) (ids : List ℕ) (bits : Bits) (i : ℕ) → AreTruths ts ids → i < length ids
    → bit_at (word_value ts ids bits) i ≡ value (tree_at ts (slice_index ids i)) bits
list-bit ts [] bits i h l = absurd (omega arith)
list-bit ts (id ∷ ids) bits zero h l =
    bit_at_lowest (value (tree_at ts id) bits + 2 * word_value ts ids bits)
    ∙ omega (arith, (h 0 (omega arith)).small bits)
list-bit ts (id ∷ ids) bits (suc i) h l =
    bit_at-suc (value (tree_at ts id) bits + 2 * word_value ts ids bits) i
    ∙ ap (λ (n : ℕ). bit_at n i) (omega (arith, (h 0 (omega arith)).small bits))
    ∙ list-bit ts ids bits i (λ j lj. h (suc j) (omega arith)) (omega arith)

-- ---- words

are-truths : {ts : List Tree} {ids : List ℕ} → IsWord ts ids → AreTruths ts ids
are-truths w i l = w.each i (omega (arith, w.count))

pub word-small : {ts : List Tree} {ids : List ℕ} (bits : Bits) → IsWord ts ids → word_value ts ids bits < 2 ^ 32
word-small {ts} {ids} bits w = rw w.count at (list-small ts ids bits (are-truths w))

-- one bit of the number of a word
pub bit-of-word : {ts : List Tree} {ids : List ℕ} (bits : Bits) (i : ℕ) → IsWord ts ids → i < 32
    → bit_at (word_value ts ids bits) i ≡ value (tree_at ts (slice_index ids i)) bits
bit-of-word {ts} {ids} bits i w l = list-bit ts ids bits i (are-truths w) (omega (arith, w.count))

-- the same in a store that has grown
pub bit-now : (n : ℕ) {ts us : List Tree} {ids : List ℕ} (bits : Bits) → KeepsTrees ts us → IsWord ts ids → n < 32
    → value (tree_at us (slice_index ids n)) bits ≡ bit_at (word_value ts ids bits) n
bit-now n bits k w l = value-kept bits k (w.each n l) ∙ sym (bit-of-word bits n w l)

pub number-kept : {ts us : List Tree} {ids : List ℕ} (bits : Bits) → KeepsTrees ts us → IsWord ts ids
    → word_value us ids bits ≡ word_value ts ids bits
number-kept {ts} {us} {ids} bits k w = list-kept ts us ids bits k (are-truths w)

pub word-kept : {ts us : List Tree} {ids : List ℕ} → KeepsTrees ts us → IsWord ts ids → IsWord us ids
word-kept k w = record {
  count = w.count;
  each = λ i l. truth-kept k (w.each i l);
}

pub word-of-kept : {ts us : List Tree} {ids : List ℕ} {f : Bits → ℕ} → KeepsTrees ts us → IsWordOf ts ids f
    → IsWordOf us ids f
word-of-kept k w = record {
  word = word-kept k w.word;
  values = λ bits. number-kept bits k w.word ∙ w.values bits;
}

pub word-of-back : {ts us : List Tree} {ids : List ℕ} {f : Bits → ℕ} → KeepsTrees ts us → IsWord ts ids
    → IsWordOf us ids f → IsWordOf ts ids f
word-of-back k w h = record { word = w; values = λ bits. sym (number-kept bits k w) ∙ h.values bits }

pub word-of-same : {ts : List Tree} {ids : List ℕ} {f g : Bits → ℕ} → IsWordOf ts ids f
    → ((bits : Bits) → f bits ≡ g bits) → IsWordOf ts ids g
word-of-same w same = record { word = w.word; values = λ bits. w.values bits ∙ same bits }

-- a word has its own numbers, also in a store that has grown
pub own-number : {ts : List Tree} {ids : List ℕ} → IsWord ts ids → IsWordOf ts ids (word_value ts ids)
own-number w = record { word = w; values = λ bits. refl }

pub number-now : {ts us : List Tree} {ids : List ℕ} → KeepsTrees ts us → IsWord ts ids
    → IsWordOf us ids (word_value ts ids)
number-now k w = word-of-kept k (own-number w)

pub number-small : {ts : List Tree} {ids : List ℕ} {f : Bits → ℕ} (bits : Bits) → IsWordOf ts ids f → f bits < 2 ^ 32
number-small bits w = rw (← w.values bits) (word-small bits w.word)

-- what is made of two words is made of their numbers
pub word-by : {ts us : List Tree} {a b w : List ℕ} {f g : Bits → ℕ} (op : Bits → ℕ → ℕ → ℕ) → IsWordOf ts a f
    → IsWordOf ts b g → IsWordOf us w (λ bits. op bits (word_value ts a bits) (word_value ts b bits))
    → IsWordOf us w (λ bits. op bits (f bits) (g bits))
word-by op a b w = word-of-same w (λ bits. ap₂ (op bits) (a.values bits) (b.values bits))

-- a diagram of a word is a bit of its numbers
pub bit-of : {ts : List Tree} {ids : List ℕ} {f : Bits → ℕ} (i : ℕ) → IsWordOf ts ids f → i < 32
    → IsTruthOf ts (slice_index ids i) (λ bits. bit_at (f bits) i)
bit-of i w l = record {
  truth = w.word.each i l;
  values = λ bits. rw (w.values bits) at (sym (bit-of-word bits i w.word l));
}

pub none-bit : {ts : List Tree} {none : List ℕ} (i : ℕ) → IsWordOf ts none (λ bits. 0) → i < 32
    → IsTruthOf ts (slice_index none i) (λ bits. 0)
none-bit i h l = truth-of-same (bit-of i h l) (λ bits. bit_at-zero i)

-- one of two words, by a bit of a third one
pub bit-chosen : (n : ℕ) {ts us vs : List Tree} {b x y w : List ℕ} {f g : Bits → ℕ} → KeepsTrees ts us → IsWord ts b
    → n < 32 → IsWordOf us x f → IsWordOf us y g
    → IsWordOf vs w (λ bits. chosen_of (value (tree_at us (slice_index b n)) bits) (word_value us x bits)
    (word_value us y bits))
    → IsWordOf vs w (λ bits. chosen_of (bit_at (word_value ts b bits) n) (f bits) (g bits))
bit-chosen n {us} {b} {f} {g} k wb l x y w =
    word-of-same (word-by (λ bits. chosen_of (value (tree_at us (slice_index b n)) bits)) x y w)
    (λ bits. ap (λ (t : ℕ). chosen_of t (f bits) (g bits)) (bit-now n bits k wb l))

-- ---- words whose bits are made one by one

-- what holds of each element of a list holds after one was set
pub set-each : {B : Type 0} (P : ℕ → B → Type 0) (d : B) (xs : List B) (n : ℕ) (x : B) (i : ℕ) → n < length xs → P n x
    → (i ≢ n → P i (get_or xs i d)) → P i (get_or (slice_set xs n x) i d)
set-each P d xs n x i l here there = grind (arith, get_or-set_same, get_or-set_other)

pub word-set : {ts us : List Tree} {ids : List ℕ} (n : ℕ) {id : ℕ} → KeepsTrees ts us → n < 32 → IsWord ts ids
    → IsTruth us id → IsWord us (slice_set ids n id)
word-set {us} {ids} n {id} k l w t = record {
  count = length-set ids n id ∙ w.count;
  each = λ i li. set-each (λ (j x : ℕ). IsTruth us x) 0 ids n id i (omega (arith, w.count)) t
      (λ ne. truth-kept k (w.each i li));
}

-- the first n diagrams are the lowest bits of these numbers
pub record IsBegun (n : ℕ) (ts : List Tree) (ids : List ℕ) (f : Bits → ℕ) : Type 0 where
  pub count : length ids ≡ 32
  pub each : (i : ℕ) → i < n → IsTruthOf ts (slice_index ids i) (λ bits. bit_at (f bits) i)

-- one more of them
pub begun-more : (n : ℕ) {ts us : List Tree} {ids : List ℕ} {id : ℕ} {f : Bits → ℕ} → KeepsTrees ts us → n < 32
    → IsBegun n ts ids f → IsTruthOf us id (λ bits. bit_at (f bits) n) → IsBegun (n + 1) us (slice_set ids n id) f
begun-more n {us} {ids} {id} {f} k l b t = record {
  count = length-set ids n id ∙ b.count;
  each = λ i li. set-each (λ (j x : ℕ). IsTruthOf us x (λ bits. bit_at (f bits) j)) 0 ids n id i
      (omega (arith, b.count)) t (λ ne. truth-of-kept k (b.each i (omega arith)));
}

-- one more, above numbers of n bits
pub begun-above : (n : ℕ) {ts us : List Tree} {ids : List ℕ} {id : ℕ} {f : Bits → ℕ} → KeepsTrees ts us → n < 32
    → IsBegun n ts ids f → ((bits : Bits) → f bits < 2 ^ n) → IsTruth us id
    → IsBegun (n + 1) us (slice_set ids n id) (λ bits. value (tree_at us id) bits * 2 ^ n + f bits)
begun-above n {us} {id} {f} k l b small t =
    begun-more n k l (record {
      count = b.count;
      each = λ i li. truth-of-same (b.each i li)
          (λ bits. sym (bit_at_cat_low (value (tree_at us id) bits) n (f bits) i li));
    }) (record {
      truth = t;
      values = λ bits. sym (top-bit (value (tree_at us id) bits) n (f bits) (t.small bits) (small bits));
    })

-- all of them: the word has these numbers
pub word-made : (n : ℕ) {ts : List Tree} {ids : List ℕ} {f : Bits → ℕ} → n ≡ 32 → ((bits : Bits) → f bits < 2 ^ 32)
    → IsBegun n ts ids f → IsWordOf ts ids f
word-made n {ts} {ids} {f} e small b = record {
  word = word;
  values = λ bits. same_from_bits_below 32 (word_value ts ids bits) (f bits) (word-small bits word) (small bits)
      (λ i l. bit-of-word bits i word l ∙ (b.each i (omega arith)).values bits);
}
  where
    word : IsWord ts ids
    word = record { count = b.count; each = λ i l. (b.each i (omega arith)).truth }
