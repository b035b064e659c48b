-- What facts say of the inputs that agree with them; and where a pool has only words and constants, that some input
-- agrees.
use Rattle.std.proofs.Common.{◌≡◌, ℕ, ◌<◌, ◌≤◌, ◌-◌, ◌+◌, ◌/◌, ◌^◌, List, length, get_or, set, map, take, arith, sym, ap, ◌∙◌, inl, inr}
use Rattle.std.proofs.lemmas.Bool.{cases_eq, cases_lt}
use Rattle.std.proofs.lemmas.List.{get_or-set_same, get_or-set_other, length-set, length-map, get_or-map, get_or_past, get_or-take, length-take-le}
use Rattle.std.proofs.lemmas.Nat.Bits.{bit_at_not, bit_at-lt, bit_at-zero, bit_at_above, same_from_bits_below}
use Rattle.sf_dom.specs.Common.{bit_at, w32, IsInput, Input, IsPool, node_at, node_value, values_of, value_of, ArePlainNodes, Node, Const, Known}
use Rattle.std.specs.Prelude.{slice_index}
use Rattle.sf_sym.specs.laws.ValueLaws.{value-node, value-constant}
use Rattle.sf_dom.specs.Known.{Has, Admits, Leaves, IsNarrower, IsConsistent}
use Rattle.sf_dom.specs.Passes.{IsAtRest}
use Rattle.sf_dom.specs.Rules.{IsClosed}
use Rattle.sf_dom.specs.WordFacts.{AgreesOnWords}
use Rattle.sf_dom.specs.Facts.{FactsView, known_at, numbers_at, AgreesWith, Agrees, AreFacts, Covers, KeepsOnly, SomeInput}

-- no number is in the empty set
pub none-has : (n : ℕ) → ¬ Has 0 n
none-has n w = omega (arith, w, bit_at-zero n)

-- no bit is in a number and in its complement
pub bit_at-complement : (c i : ℕ) → c < 2 ^ 32 → bit_at (4294967295 - c) i + bit_at c i ≤ 1
bit_at-complement c i l = elim (cases_lt i 32) [
  | inl h ↦ omega (arith, bit_at_not w32 c i l h, bit_at-lt c i)
  | inr h ↦ omega (arith, bit_at_above c 32 i l h, bit_at-lt (4294967295 - c) i)
]

-- a number that is admitted is admitted where less is known
pub narrower-admits : (old new : Known) (n : ℕ) → IsNarrower old new → Admits new n → Admits old n
narrower-admits old new n h a = record {
  above = omega (arith, h.low, a.above);
  below = omega (arith, h.high, a.below);
  bits = record {
    zero = λ i. omega (arith, h.zeros i, a.bits.zero i);
    one = λ i. omega (arith, h.ones i, a.bits.one i);
  };
}

-- what is known of a word that is known to be this number admits the number
pub constant-admits : (c : ℕ) → c < 2 ^ 32 → Admits (record { low = c; high = c; zeros = 4294967295 - c; ones = c }) c
constant-admits c l = record {
  above = omega arith;
  below = omega arith;
  bits = record { zero = λ i. bit_at-complement c i l; one = λ i. omega arith };
}

-- a number that is left for a word stands there in some input that agrees on the words
pub sampled : (f : FactsView) (w n : ℕ) → w < 16 → AreFacts f → Leaves (known_at f.known w) (numbers_at f.excluded w) n
    → (d : Input) × IsInput d × AgreesOnWords f d × (slice_index d.words w ≡ n)
sampled f w n lw h leaves =
    let count = h.count in
    let ks = take 16 f.known in
    let tlen : length ks ≡ 16 = length-take-le 16 f.known (omega arith) in
    let xs = map (λ (k : Known). k.low) ks in
    let len : length xs ≡ 16 = length-map ks (λ k. k.low) ∙ tlen in
    let d : Input = record { words = set xs w n } in
    let at : (i : ℕ) → i < 16 → Leaves (known_at f.known i) (numbers_at f.excluded i) (get_or (set xs w n) i 0)
    = λ i l. elim (cases_eq i w) [
      | inl e ↦ rw (e, get_or-set_same xs w n 0 (omega arith)) leaves
      | inr ne ↦ (let low : get_or xs i 0 ≡ (known_at f.known i).low
          = get_or-map (λ k. k.low) ks i (record { low = 0; high = 0; zeros = 0; ones = 0 }) 0 (omega arith)
          ∙ ap (λ (k : Known). k.low) (get_or-take 16 f.known i
          (record { low = 0; high = 0; zeros = 0; ones = 0 }) l) in
          rw (get_or-set_other xs w i n 0 ne, low) (h.tight i l).low)
    ] in
    let fits : (i : ℕ) → get_or (set xs w n) i 0 < 2 ^ 32
    = λ i. elim (cases_lt i 16) [
      | inl l ↦ omega (arith, (at i l).admitted.below, (h.consistent i (omega arith)).fits)
      | inr g ↦ omega (arith, get_or_past (set xs w n) i 0 (omega (arith, length-set xs w n)))
    ] in
    (d, record { sixteen = length-set xs w n ∙ len; each = fits }, at, get_or-set_same xs w n 0 (omega arith))

-- the value of a word
pub value-word : (ns : List Node) (d : Input) (w : ℕ) → IsPool ns → w < 16 → value_of ns d w ≡ slice_index d.words w
value-word ns d w p l = let words = p.words in
    value-node ns d w p (omega arith) ∙ ap (node_value d (values_of ns d)) (p.word w l)

-- a decided node's facts admit its number
pub decided-admits : (k : Known) (c : ℕ) → IsConsistent k → k.low ≡ c → k.high ≡ c → Admits k c
decided-admits k c s el eh =
    let f = s.fits in
    let d : k.low ≡ k.high = omega arith in
    record {
      above = omega arith;
      below = omega arith;
      bits = rw (s.zeros d, s.ones d, el) (constant-admits c (omega arith)).bits;
    }

-- what is known of a node of which nothing more follows is consistent
pub closed-consistent : (k : Known) → IsClosed k → IsConsistent k
closed-consistent k h =
    let ordered = h.ordered in
    let fits = h.fits in
    let top = h.high in
    let bottom = h.low in
    record {
      ordered = ordered;
      fits = fits;
      zeros = λ e. same_from_bits_below 32 k.zeros (4294967295 - k.low) (omega arith) (omega arith) (λ i l.
          (h.leading i l (ap (λ n. n / 2 ^ i) e)).0 ∙ sym (bit_at_not w32 k.low i (omega arith) l));
      ones = λ e. same_from_bits_below 32 k.ones k.low (omega arith) (omega arith)
          (λ i l. (h.leading i l (ap (λ n. n / 2 ^ i) e)).1);
    }

-- a constant of which nothing more follows is known
pub constant-known : (ks : List Known) (ex : List ℕ) (ns : List Node) (i c : ℕ) → IsAtRest ks ex ns i
    → node_at ns i ≡ Const c → ((known_at ks i).low ≡ c) × ((known_at ks i).high ≡ c)
constant-known ks ex ns i c h e =
    let ordered = h.closed.known.ordered in
    let s = rw e at h.still in
    (omega (arith, s.low, s.high), omega (arith, s.low, s.high))

-- what facts of a pool keep, whatever the pool is
pub covers-facts : (f : FactsView) (ns : List Node) → Covers f ns → AreFacts f
covers-facts f ns h =
    let words = h.pool.words in
    let count = h.count in
    record {
      count = omega arith;
      words = h.words;
      consistent = λ i l. closed-consistent (known_at f.known i) (h.rest i (omega arith)).closed.known;
      tight = λ w l. (h.rest w (omega arith)).closed.tight l;
    }

-- where a pool has only words and constants, an input that agrees on the words agrees
pub words-agree : (f : FactsView) (ns : List Node) (d : Input) → Covers f ns → ArePlainNodes ns → AgreesOnWords f d
    → AgreesWith f.known f.excluded ns d
words-agree f ns d h plain a i l =
    let p = h.pool in
    let len = h.count in
    elim (cases_lt i 16) [
      | inl b ↦ rw (p.word i b, value-word ns d i p b) (a i b)
      | inr g ↦ (let c = plain i g (omega arith) in
          let r = h.rest i (omega arith) in
          let k = constant-known f.known f.excluded ns i c.0 r c.1 in
          rw (c.1, value-constant ns d i c.0 p (omega arith) c.1)
          (record {
            admitted = decided-admits (known_at f.known i) c.0 (closed-consistent (known_at f.known i) r.closed.known)
                k.0 k.1;
            kept = none-has c.0;
          }))
    ]

-- Where a pool has only words and constants, some input agrees.
pub some-input : (f : FactsView) (ns : List Node) → Covers f ns → ArePlainNodes ns
    → (d : Input) × IsInput d × Agrees f ns d
unfolding Agrees
some-input f ns h plain =
    let facts = covers-facts f ns h in
    let s = sampled f 0 (known_at f.known 0).low (omega arith) facts (facts.tight 0 (omega arith)).low in
    (s.0, s.1, words-agree f ns s.0 h plain s.2)

-- Where a pool has only words and constants, and only inputs that agreed and have a property agree afterwards, some
-- input agreed and has it.
pub some-such : (old new : FactsView) (ns : List Node) (has : Input → Type 0) → Covers new ns
    → KeepsOnly old new ns has → ArePlainNodes ns → SomeInput old ns has
some-such old new ns has h only plain =
    let s = some-input new ns h plain in
    let k = only s.0 s.1 s.2 in
    (s.0, s.1, k.0, k.1)

-- The number that a word has on an input that agrees is left for it.
pub agreeing-word : (f : FactsView) (ns : List Node) (d : Input) (w : ℕ) → Covers f ns → w < 16 → Agrees f ns d
    → Leaves (known_at f.known w) (numbers_at f.excluded w) (slice_index d.words w)
unfolding Agrees
agreeing-word f ns d w h l a =
    let words = h.pool.words in
    let count = h.count in
    rw (h.pool.word w l, value-word ns d w h.pool l) at (a w (omega arith))

-- The low end of a word's interval is left for it.
pub low-left : (f : FactsView) (ns : List Node) (w : ℕ) → Covers f ns → w < 16
    → Leaves (known_at f.known w) (numbers_at f.excluded w) (known_at f.known w).low
low-left f ns w h l = ((covers-facts f ns h).tight w l).low
