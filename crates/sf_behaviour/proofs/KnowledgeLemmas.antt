-- What registers are known to have, from place to place.
use Rattle.sf_behaviour.proofs.Common.{◌≡◌, ℕ, ◌<◌, ◌^◌, List, length, length-set, Option, Some, None, refl, sym, ◌∙◌, arith, slice_set, get_or-set_same, get_or-set_other, Operand, Tree, Bits, KeepsTrees, State, input_by, A, X, IsRegister, with_register, next_with, Known, known_word, held_in, IsInputWord, IsKnowledge, IsLess, source_number, operand_in, source_in, word_value, IsWord, Word, Source, set-get_or, operand_of, Fits}
use Rattle.sf_behaviour.proofs.words.WordLemmas.{set-each, word-kept, word-small, number-kept}
use Rattle.sf_behaviour.proofs.VariableLemmas.{with-register-own, with-register-other, number-after, number-elsewhere}

-- a register has the word that was set
pub set-own : (k : Known) (r : ℕ) (word : Option Word) → IsRegister r → length k ≡ 18
    → known_word (slice_set k r word) r ≡ word
set-own k r word there count = get_or-set_same k r word None (omega (arith, there, count))

-- the variables of one register do not change the number of another one
in-with : (ts : List Tree) (k : Known) (r q n : ℕ) (bits : Bits) → IsKnowledge ts k → IsRegister r → (q ≡ r → ⊥)
    → held_in ts k (with_register r n bits) q ≡ held_in ts k bits q
in-with ts k r q n bits knows there ne =
    let same = λ (w : Word) (e : known_word k q ≡ Some w). (knows.each q w e).same r n bits there in
    grind (arith, with-register-other r q n bits, same)

-- ---- from one place to the next

-- where a register is set, its variables have the number then; and so has its word, if it is known
pub fits-set : (ts : List Tree) (k : Known) (bits : Bits) (s : State) (r n : ℕ) (word : Option Word) → IsKnowledge ts k
    → IsRegister r → n < 2 ^ 32 → ((w : Word) → word ≡ Some w → word_value ts w.bits (with_register r n bits) ≡ n)
    → Fits ts k bits s → Fits ts (slice_set k r word) (with_register r n bits) (next_with s r n)
fits-set ts k bits s r n word knows there small is fits q m e =
    let own = set-own k r word there knows.count in
    let other = get_or-set_other k r q word None in
    let elsewhere = in-with ts k r q n bits knows there in
    let number = with-register-own r n bits small in
    grind (arith, number-after s r n m, own, is, number, other, elsewhere, fits q m, number-elsewhere s r q n)

-- where one register more is known, its variables may have its number too
pub fits-less : (ts : List Tree) (k : Known) (bits : Bits) (s : State) (r : ℕ) (w : Word) → IsKnowledge ts k
    → IsRegister r → known_word k r ≡ None → IsWord ts w.bits → Fits ts (slice_set k r (Some w)) bits s
    → Fits ts k (with_register r (word_value ts w.bits bits) bits) s
fits-less ts k bits s r w knows there unknown word fits q m e =
    let own = set-own k r (Some w) there knows.count in
    let other = get_or-set_other k r q (Some w) None in
    let number = with-register-own r (word_value ts w.bits bits) bits (word-small bits word) in
    let elsewhere = in-with ts k r q (word_value ts w.bits bits) bits knows there in
    grind (arith, fits q m e, own, other, number, elsewhere)

-- ---- stores that have grown

pub input-word-kept : {ts us : List Tree} {ids : List ℕ} → KeepsTrees ts us → IsInputWord ts ids → IsInputWord us ids
input-word-kept k h = record {
  word = word-kept k h.word;
  same = λ r n bits there.
      rw (number-kept (with_register r n bits) k h.word, number-kept bits k h.word) (h.same r n bits there);
}

pub knowledge-kept : {ts us : List Tree} {k : Known} → KeepsTrees ts us → IsKnowledge ts k → IsKnowledge us k
knowledge-kept keeps h = record {
  count = h.count;
  each = λ r w e. input-word-kept keeps (h.each r w e);
}

pub in-kept : {ts us : List Tree} {k : Known} (bits : Bits) (r : ℕ) → KeepsTrees ts us → IsKnowledge ts k
    → held_in us k bits r ≡ held_in ts k bits r
in-kept {ts} {us} {k} bits r keeps h =
    let same = λ (w : Word) (e : known_word k r ≡ Some w). number-kept bits keeps (h.each r w e).word in
    grind (arith, same)

pub fits-kept : {ts us : List Tree} {k : Known} (bits : Bits) (s : State) → KeepsTrees ts us → IsKnowledge ts k
    → Fits us k bits s → Fits ts k bits s
fits-kept bits s keeps h fits r n e = fits r n e ∙ in-kept bits r keeps h

pub operand-kept : {ts us : List Tree} {k : Known} (bits : Bits) (other : Operand) → KeepsTrees ts us
    → IsKnowledge ts k → operand_in us k bits other ≡ operand_in ts k bits other
operand-kept bits other keeps h = grind (arith, in-kept bits X keeps h)

pub source-kept : {ts us : List Tree} {k : Known} (bits : Bits) (source : Source) → KeepsTrees ts us
    → IsKnowledge ts k → source_in us k bits source ≡ source_in ts k bits source
source-kept bits source keeps h =
    grind (arith, λ (r : ℕ). in-kept bits r keeps h, λ (other : Operand). operand-kept bits other keeps h)

-- ---- numbers of sources

pub operand-in : (ts : List Tree) (k : Known) (bits : Bits) (s : State) (other : Operand) → Fits ts k bits s
    → operand_of s other ≡ operand_in ts k bits other
operand-in ts k bits s other fits = grind (arith, fits X s.x refl)

-- a source has this number where it has one
pub source-in : (ts : List Tree) (k : Known) (bits : Bits) (s : State) (source : Source) (n : ℕ) → Fits ts k bits s
    → source_number (input_by bits) s source ≡ Some n → n ≡ source_in ts k bits source
source-in ts k bits s source n fits e = grind (arith, fits A s.a refl, operand-in, fits)

-- ---- what is known more, and less

pub knowledge-less : (ts : List Tree) (k l : Known) → IsLess k l → length k ≡ 18 → IsKnowledge ts l → IsKnowledge ts k
knowledge-less ts k l less count h = record { count = count; each = λ r w e. h.each r w (less r w e) }

pub set-knowledge : (ts : List Tree) (k : Known) (r : ℕ) (word : Option Word) → IsRegister r → IsKnowledge ts k
    → ((w : Word) → word ≡ Some w → IsInputWord ts w.bits) → IsKnowledge ts (slice_set k r word)
set-knowledge ts k r word there knows new = record {
  count = length-set k r word ∙ knows.count;
  each = λ q. set-each (λ (p : ℕ) (o : Option Word). (w : Word) → o ≡ Some w → IsInputWord ts w.bits) None k r word q
      (omega (arith, there, knows.count)) new (λ ne. knows.each q);
}

pub set-less : (k l : Known) (r : ℕ) (word : Option Word) → IsRegister r → length k ≡ 18 → IsLess k l
    → ((w : Word) → word ≡ Some w → known_word l r ≡ Some w) → IsLess (slice_set k r word) l
set-less k l r word there count less new q w e =
    grind (arith, get_or-set_same k r word None, get_or-set_other k r q word None, less q w, new w, there)

-- what is known stays if a register is set to the word that it has
pub set-same : (k : Known) (r : ℕ) {word : Option Word} → word ≡ known_word k r → k ≡ slice_set k r word
set-same k r same = rw same (sym (set-get_or k r None))
