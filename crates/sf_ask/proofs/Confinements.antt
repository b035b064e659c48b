-- Facts that take in a question word by word, by the rules.
use Rattle.sf_ask.proofs.Common.{common_steps, ◌≡◌, ℕ, zero, suc, ◌+◌, ◌<◌, ◌≤◌, inl, inr, Bool, true, false, List, length, set, refl, sym, ap, subst, ◌∙◌, arith, add-one, MatchBool, ◌==◌, Option, None, MatchOption, cases_eq, cases_lt, eqb-true, get_or-set_same, get_or-set_other, same_Some, Node, IsPool, node_at, Known, FactsView, Covers, known_at, TakesInBy, CantTakeInBy, IsPass, PassGives, IsReduction, ReductionGives, between, masked, met, forward_node, WritingGives, HaveOneResult, QuestionData, range_at, mask_at, is_whole, TakeInRange, TakeInMask, TakeInWord, TakeInBefore, CantTakeInQuestion, CantTakeInMask, CantTakeInWord, IsOutside}
use Rattle.std.specs.Prelude.{Some}

-- ---- one result

module _ (laws : HaveOneResult) (ns : List Node) (pool : IsPool ns) where
  -- a step that changes nothing, or takes in more of a word, makes one thing of facts
  same-step : (b : Bool) (word : ℕ) (more : Known) (f g h : FactsView)
      → MatchBool b (g ≡ f) (TakesInBy f g ns word more) → MatchBool b (h ≡ f) (TakesInBy f h ns word more) → g ≡ h
  same-step true word more f g h a c = a ∙ sym c
  same-step false word more f g h a c = laws.confined f g h ns word more pool a c

  same-word : (q : QuestionData) (word : ℕ) (f g h : FactsView) → TakeInWord q word ns f g → TakeInWord q word ns f h
      → g ≡ h
  same-word q word f g h a b =
      same-step _ word _ b.ranged g h (subst (λ (x : FactsView). TakeInMask q word ns x g)
      (same-step _ word _ f a.ranged b.ranged a.range b.range) a.mask) b.mask

  pub same-before : (q : QuestionData) (end : ℕ) (f g h : FactsView) → TakeInBefore q end ns f g
      → TakeInBefore q end ns f h → g ≡ h
  unfolding TakeInBefore
  same-before q zero f g h a b = sym a ∙ b
  same-before q (suc word) f g h a b =
      same-word q word b.0 g h (subst (λ (x : FactsView). TakeInWord q word ns x g)
      (same-before q word f a.0 b.0 a.1 b.1) a.2) b.2

  -- where facts can't take in more of a word, they don't
  not-word : (q : QuestionData) (word : ℕ) (f g : FactsView) → CantTakeInWord q word ns f → TakeInWord q word ns f g
      → ⊥
  not-word q word f g (inl cant) takes =
      laws.confines_not f takes.ranged ns word _ pool (rw cant.0 at takes.range) cant.1
  not-word q word f g (inr (ranged, range, cant)) takes =
      let same = subst (λ (x : FactsView). CantTakeInMask q word ns x)
      (same-step _ word _ f ranged takes.ranged range takes.range) cant in
      laws.confines_not takes.ranged g ns word _ pool (rw same.0 at takes.mask) same.1

-- ---- one word

pub is-other : (a b : ℕ) → (a ≡ b → ⊥) → (a == b) ≡ false
is-other a b ne = grind (arith, common_steps, eqb-true)

-- so are the bits of a mask
pub mask-rule : (b : Bool) (q : QuestionData) (word : ℕ) (ns : List Node) (f g : FactsView)
    → ((mask_at q word).0 == 0) ≡ false
    → MatchBool b (TakesInBy f g ns word (masked (mask_at q word).0 (mask_at q word).1))
    (CantTakeInBy f ns word (masked (mask_at q word).0 (mask_at q word).1))
    → MatchBool b (TakeInMask q word ns f g) (CantTakeInMask q word ns f)
mask-rule true q word ns f g some h = rw some h
mask-rule false q word ns f g some h = (some, h)

-- a word is taken in where its range was, and then its mask
pub word-rule : (b : Bool) (q : QuestionData) (word : ℕ) (ns : List Node) (f g h : FactsView)
    → TakeInRange q word ns f g
    → MatchBool b (TakeInMask q word ns g h) (CantTakeInMask q word ns g)
    → MatchBool b (TakeInWord q word ns f h) (CantTakeInWord q word ns f)
word-rule true q word ns f g h range mask = record { ranged = g; range = range; mask = mask }
word-rule false q word ns f g h range mask = inr (g, range, mask)

-- ---- one word after the other

pub none-before : (q : QuestionData) (ns : List Node) (f : FactsView) → TakeInBefore q 0 ns f f
unfolding TakeInBefore
none-before q ns f = refl

pub one-more : (q : QuestionData) (word : ℕ) (ns : List Node) (f g h : FactsView) → TakeInBefore q word ns f g
    → TakeInWord q word ns g h → TakeInBefore q (word + 1) ns f h
unfolding TakeInBefore
one-more q word ns f g h a b = grind (arith, common_steps, add-one)

-- a word before a place was taken in at its turn
pub record TookIn (q : QuestionData) (word : ℕ) (ns : List Node) (f : FactsView) : Type 0 where
  pub old : FactsView
  pub new : FactsView
  pub before : TakeInBefore q word ns f old
  pub takes : TakeInWord q word ns old new

pub at-turn : (q : QuestionData) (end word : ℕ) (ns : List Node) (f g : FactsView) → word < end
    → TakeInBefore q end ns f g → TookIn q word ns f
unfolding TakeInBefore
at-turn q zero word ns f g l h = absurd (omega arith)
at-turn q (suc end) word ns f g l h = elim (cases_lt word end) [
  | inl earlier ↦ at-turn q end word ns f h.0 earlier h.1
  | inr from ↦
      let same : end ≡ word = omega arith in
      subst (λ (n : ℕ). TookIn q n ns f) same (record { old = h.0; new = g; before = h.1; takes = h.2 })
]

-- where a word can't be taken in at its turn, the question can't
pub cant-at-turn : (laws : HaveOneResult) (ns : List Node) (pool : IsPool ns) (q : QuestionData) (word : ℕ)
    (f g : FactsView) → word < 16 → TakeInBefore q word ns f g → CantTakeInWord q word ns g
    → CantTakeInQuestion q ns f
cant-at-turn laws ns pool q word f g l before cant k all =
    let t = at-turn q 16 word ns f k l all in
    not-word laws ns pool q word t.old t.new (subst (λ (x : FactsView). CantTakeInWord q word ns x)
    (same-before laws ns pool q word f g t.old before t.before) cant) t.takes

-- ---- what is left of a word

-- no end moves outwards
record IsWithin (old new : Known) : Type 0 where
  low : old.low ≤ new.low
  high : new.high ≤ old.high

-- what taking in more of a word leaves of the words
record TakesInMore (f g : FactsView) (ns : List Node) (word : ℕ) (more : Known) : Type 0 where
  count : length g.known ≡ length ns
  each : (i : ℕ) → i < 16 → IsWithin (known_at f.known i) (known_at g.known i)
  here : IsWithin more (known_at g.known word)
  ordered : (known_at g.known word).low ≤ (known_at g.known word).high

within-met : (a b c : Known) → (met a b).low ≤ c.low → c.high ≤ (met a b).high → IsWithin a c × IsWithin b c
within-met a b c low high = grind (arith, common_steps)

within-on : (a b c : Known) → IsWithin a b → IsWithin b c → IsWithin a c
within-on a b c h k = grind (arith, common_steps)

takes-more : (f g : FactsView) (ns : List Node) (word : ℕ) (more : Known) → word < 16 → 16 ≤ length ns
    → length f.known ≡ length ns → TakesInBy f g ns word more → TakesInMore f g ns word more
takes-more f g ns word more lw long count h = written h.known.0 h.known.1 h.known.2
  where
    ks : List Known
    ks = f.known

    passed : (left : Known) (next : List Known) → IsReduction f.excluded word (met (known_at ks word) more) left
        → next ≡ set ks word left → IsPass next g.known f.excluded ns → TakesInMore f g ns word more
    passed left next is same pass = record {
      count = pass.count;
      each = each;
      here = within-on more (known_at next word) (known_at g.known word) (rw here-is own.1) (after word lw);
      ordered = (pass.each word (omega arith)).is.known.ordered;
    }
      where
        own : IsWithin (known_at ks word) left × IsWithin more left
        own = within-met (known_at ks word) more left is.narrower.low is.narrower.high

        here-is : known_at next word ≡ left
        here-is = rw (
          same,
          get_or-set_same ks word left (record { low = 0; high = 0; zeros = 0; ones = 0 })
              (omega arith),
        ) refl

        after : (i : ℕ) → i < 16 → IsWithin (known_at next i) (known_at g.known i)
        after i l = let r = (pass.each i (omega arith)).narrower in
            (within-met (known_at next i) (forward_node g.known (node_at ns i)) (known_at g.known i) r.low r.high).0

        each : (i : ℕ) → i < 16 → IsWithin (known_at ks i) (known_at g.known i)
        each i l = elim (cases_eq i word) [
          | inl e ↦ within-on (known_at ks i) (known_at next i) (known_at g.known i)
              (rw (e, here-is) own.0) (after i l)
          | inr ne ↦ within-on (known_at ks i) (known_at next i) (known_at g.known i)
              (rw (same, get_or-set_other ks word i left (record { low = 0; high = 0; zeros = 0; ones = 0 }) ne)
              (record { low = omega arith; high = omega arith })) (after i l)
        ]

    reduced : (o : Option Known) (next : List Known) → ReductionGives f.excluded word (met (known_at ks word) more) o
        → MatchOption o (Some next ≡ None) (λ left. Some next ≡ Some (set ks word left))
        → IsPass next g.known f.excluded ns → TakesInMore f g ns word more
    reduced None next is same pass = let clash : Some next ≡ None = same in absurd cc
    reduced (Some left) next is same pass = passed left next is (same_Some next (set ks word left) same) pass

    written : (o : Option (List Known)) → WritingGives ks f.excluded word (met (known_at ks word) more) o
        → MatchOption o (Some g.known ≡ None) (λ next. PassGives next f.excluded ns (Some g.known))
        → TakesInMore f g ns word more
    written None given pass = let clash : Some g.known ≡ None = pass in absurd cc
    written (Some next) given pass = reduced given.0 next given.1 given.2 pass

-- what is known of each word after a step is within what was known of it
record IsWithinFacts (f g : FactsView) (ns : List Node) : Type 0 where
  count : length g.known ≡ length ns
  each : (i : ℕ) → i < 16 → IsWithin (known_at f.known i) (known_at g.known i)

within-same : (f g : FactsView) (ns : List Node) → length f.known ≡ length ns → f.known ≡ g.known → IsWithinFacts f g ns
within-same f g ns count same = grind (arith, common_steps)

step-within : (b : Bool) (word : ℕ) (more : Known) (f g : FactsView) (ns : List Node) → word < 16 → 16 ≤ length ns
    → length f.known ≡ length ns → MatchBool b (g ≡ f) (TakesInBy f g ns word more) → IsWithinFacts f g ns
step-within true word more f g ns lw long count h = within-same f g ns count (sym (ap (λ (x : FactsView). x.known) h))
step-within false word more f g ns lw long count h =
    let t = takes-more f g ns word more lw long count h in record { count = t.count; each = t.each }

within-again : (f g h : FactsView) (ns : List Node) → IsWithinFacts f g ns → IsWithinFacts g h ns → IsWithinFacts f h ns
within-again f g h ns a b = grind (arith, common_steps, within-on)

before-within : (q : QuestionData) (end : ℕ) (ns : List Node) (f g : FactsView) → end ≤ 16 → 16 ≤ length ns
    → length f.known ≡ length ns → TakeInBefore q end ns f g → IsWithinFacts f g ns
unfolding TakeInBefore
before-within q zero ns f g l long count h = within-same f g ns count (ap (λ (x : FactsView). x.known) h)
before-within q (suc word) ns f g l long count h =
    grind (arith, common_steps, step-within, within-again, before-within q word ns f h.0 (omega arith) long count h.1)

-- where what is known of a word leaves no number of its range, the facts can't be confined to the question
pub cant-outside : (q : QuestionData) (word : ℕ) (ns : List Node) (f : FactsView) → word < 16 → Covers f ns
    → is_whole (range_at q word) ≡ false
    → IsOutside (known_at f.known word) (range_at q word).0 (range_at q word).1 → CantTakeInQuestion q ns f
cant-outside q word ns f l covers part out g all =
    let long = covers.pool.words in
    let t = at-turn q 16 word ns f g l all in
    let a = before-within q word ns f t.old (omega arith) long covers.count t.before in
    let b = takes-more t.old t.takes.ranged ns word (between (range_at q word).0 (range_at q word).1) l long a.count
    (rw part at t.takes.range) in
    crossed (known_at f.known word) (known_at t.old.known word) (known_at t.takes.ranged.known word) (a.each word l)
    (b.each word l) b.here b.ordered out
  where
    crossed : (x y z : Known) → IsWithin x y → IsWithin y z
        → IsWithin (between (range_at q word).0 (range_at q word).1) z → z.low ≤ z.high
        → IsOutside x (range_at q word).0 (range_at q word).1 → ⊥
    crossed x y z a b c o (inl below) = omega (arith, a.high, b.high, c.low)
    crossed x y z a b c o (inr above) = omega (arith, a.low, b.low, c.high)
