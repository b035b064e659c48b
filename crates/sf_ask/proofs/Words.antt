-- Facts confined to a question, word by word.
use Rattle.sf_ask.proofs.Common.{common_steps, ◌≡◌, ℕ, ◌+◌, ◌<◌, ◌^◌, Bool, true, false, List, arith, sym, ap, subst, inl, inr, ◌∙◌, MatchBool, MatchResult, Result, Ok, Err, IfOk, IsErrAnd, slice_index, ◌==◌, cases_eq, and_parts, eqb-true, IfOk-at_ok, err_from_is_err_and, and_zero_r, Input, IsInput, Node, FactsView, Covers, known_at, AreNarrower, AreConfined, ConfinesWord, HasIn, LiesIn, KeepsOnly, NoInput, narrower-admits, agreeing-word, some-input, some-such, QuestionData, range_at, mask_at, is_whole, IsNumberOf, IsInQuestion, IsInWordRange, HasMaskBits, IsInBefore, IsOutside, IsNumberBefore, below_more}
use Rattle.std.specs.Prelude.{bit_and}

pub of-true : {A : Type 0} (B : Type 0) (b : Bool) → b ≡ true → MatchBool b A B → A
of-true B true e h = h
of-true B false e h = cc

-- what holds of a result after `map_err` made another error of its error
pub mapped-ok : {X E D : Type 0} {P Q : X → Type 0} (Post : E → D → Type 0) (r : Result X E) (s : Result X D)
    → MatchResult r (λ x. s ≡ Ok x) (λ e. IsErrAnd s (Post e)) → IfOk r P → ((x : X) → P x → Q x) → IfOk s Q
mapped-ok {Q = Q} Post (Ok x) s same holds more = subst (λ t. IfOk t Q) (sym same) (more x holds)
mapped-ok {Q = Q} Post (Err e) s other holds more =
    let (d, is, post) = err_from_is_err_and s other in subst (λ t. IfOk t Q) (sym is) tt

-- the same of its value
pub mapped-at : {X E D : Type 0} (Post : E → D → Type 0) (P : X → Type 0) (r : Result X E) (s : Result X D) (x : X)
    → MatchResult r (λ y. s ≡ Ok y) (λ e. IsErrAnd s (Post e)) → IfOk r P → s ≡ Ok x → P x
mapped-at Post P r s x cases holds is = IfOk-at_ok P is (mapped-ok Post r s cases holds (λ y h. h))

-- nothing is lost where nothing changes
pub narrower-refl : (f : FactsView) → AreNarrower f f
narrower-refl f = grind (arith, common_steps)

-- where every input passes, the facts are confined as they stand
pub stays : (f : FactsView) (ns : List Node) (passes : Input → Type 0) (may_have : ℕ → ℕ → Type 0) → Covers f ns
    → ((d : Input) → IsInput d → passes d) → ((word n : ℕ) → word < 16 → n < 2 ^ 32 → may_have word n)
    → AreConfined f f ns passes may_have
stays f ns passes may_have of all any = search (arith, narrower-refl, some-input)

-- facts that are confined twice are confined by both
pub again : (f g h : FactsView) (ns : List Node) (one two both : Input → Type 0)
    (first second may_have : ℕ → ℕ → Type 0)
    → Covers f ns
    → AreConfined f g ns one first → AreConfined g h ns two second
    → ((d : Input) → both d → one d) → ((d : Input) → both d → two d) → ((d : Input) → one d → two d → both d)
    → ((word n : ℕ) → word < 16 → first word n → second word n → may_have word n)
    → AreConfined f h ns both may_have
again f g h ns one two both first second may_have of a b to_one to_two to_both joins =
    let words = of.pool.words in
    let count = of.count in
    let same = a.covers.count in
    let only : KeepsOnly f h ns both = search arith in
    record {
      covers = b.covers;
      narrower = (grind (arith, common_steps));
      keeps = λ d i agrees passes. b.keeps d i (a.keeps d i agrees (to_one d passes)) (to_two d passes);
      only = only;
      some = some-such f h ns both b.covers only;
      numbers = λ word n w l m. joins word n w
          (a.numbers word n w l (narrower-admits _ _ n (b.narrower.known word (omega arith)) m))
          (b.numbers word n w l m);
    }

-- no input passes both, where none of those that passed the first passes the second
pub none-again : (f g : FactsView) (ns : List Node) (one two both : Input → Type 0) (first : ℕ → ℕ → Type 0)
    → AreConfined f g ns one first → NoInput g ns two → ((d : Input) → both d → one d)
    → ((d : Input) → both d → two d) → NoInput f ns both
none-again f g ns one two both first a none to_one to_two = grind (arith, common_steps)

-- ---- one word

-- a range of all numbers, and a mask of no bits, leave a word as it is
pub range-stays : (q : QuestionData) (at : ℕ) (r : ℕ × ℕ) (f : FactsView) (ns : List Node) → r ≡ range_at q at
    → is_whole r ≡ true → Covers f ns → ConfinesWord f f ns at (IsInWordRange q at)
range-stays q at r f ns e whole of =
    let parts = and_parts (r.0 == 0) (r.1 == 4294967295) whole in
    let low : r.0 ≡ 0 = eqb-true _ _ parts.0 in
    let high : r.1 ≡ 4294967295 = eqb-true _ _ parts.1 in
    let all : (n : ℕ) → n < 2 ^ 32 → IsInWordRange q at n
    = λ n small. subst (λ (x : ℕ × ℕ). LiesIn x.0 x.1 n) e (omega arith, omega arith) in
    stays f ns (HasIn at (IsInWordRange q at)) (λ word n. word ≡ at → IsInWordRange q at n) of
    (λ d i. all (slice_index d.words at) (i.each at)) (λ word n w small same. all n small)

pub mask-stays : (q : QuestionData) (at : ℕ) (m : ℕ × ℕ) (f : FactsView) (ns : List Node) → m ≡ mask_at q at → m.0 ≡ 0
    → bit_and m.1 m.0 ≡ m.1 → Covers f ns → ConfinesWord f f ns at (HasMaskBits q at)
mask-stays q at m f ns e zero inside of =
    let value : m.1 ≡ 0 = sym inside ∙ ap (λ (x : ℕ). bit_and m.1 x) zero ∙ and_zero_r m.1 in
    let any : (n : ℕ) → HasMaskBits q at n
    = λ n. subst (λ (x : ℕ × ℕ). bit_and n x.0 ≡ x.1) e (ap (λ (x : ℕ). bit_and n x) zero ∙ and_zero_r n ∙ sym value) in
    stays f ns (HasIn at (HasMaskBits q at)) (λ word n. word ≡ at → HasMaskBits q at n) of
    (λ d i. any (slice_index d.words at)) (λ word n w small same. any n)

-- a word that is confined to its range, and then to the bits of its mask
pub word-confines : (b : Bool) (q : QuestionData) (at : ℕ) (f g h : FactsView) (ns : List Node) → Covers f ns
    → ConfinesWord f g ns at (IsInWordRange q at)
    → MatchBool b (ConfinesWord g h ns at (HasMaskBits q at)) (NoInput g ns (HasIn at (HasMaskBits q at)))
    → MatchBool b (ConfinesWord f h ns at (IsNumberOf q at)) (NoInput f ns (HasIn at (IsNumberOf q at)))
word-confines true q at f g h ns of a b = again f g h ns (HasIn at (IsInWordRange q at)) (HasIn at (HasMaskBits q at))
    (HasIn at (IsNumberOf q at)) (λ word n. word ≡ at → IsInWordRange q at n) (λ word n. word ≡ at → HasMaskBits q at n)
    (λ word n. word ≡ at → IsNumberOf q at n) of a b (λ d n. (n.above, n.below)) (λ d n. n.masked)
    (λ d r m. record { above = r.0; below = r.1; masked = m })
    (λ word n w r m same. let l = r same in record { above = l.0; below = l.1; masked = m same })
word-confines false q at f g h ns of a none = grind (arith, common_steps, none-again)

-- where what is known of a word leaves no number of its range, no input is in the question
pub outside-range : (q : QuestionData) (at : ℕ) (f : FactsView) (ns : List Node) → at < 16
    → IsOutside (known_at f.known at) (range_at q at).0 (range_at q at).1 → Covers f ns → NoInput f ns (IsInQuestion q)
outside-range q at f ns l (inl below) covers = search (arith, agreeing-word)
outside-range q at f ns l (inr above) covers = search (arith, agreeing-word)

-- ---- one word after the other

pub before-none : (q : QuestionData) (f : FactsView) (ns : List Node) → Covers f ns
    → AreConfined f f ns (IsInBefore q 0) (IsNumberBefore q 0)
before-none q f ns of = stays f ns (IsInBefore q 0) (IsNumberBefore q 0) of (λ d i word l. absurd (omega arith))
    (λ word n w small l. absurd (omega arith))

pub before-more : (q : QuestionData) (at : ℕ) (f g h : FactsView) (ns : List Node) → Covers f ns
    → AreConfined f g ns (IsInBefore q at) (IsNumberBefore q at)
    → ConfinesWord g h ns at (IsNumberOf q at)
    → AreConfined f h ns (IsInBefore q (at + 1)) (IsNumberBefore q (at + 1))
before-more q at f g h ns of a b = again f g h ns (IsInBefore q at) (HasIn at (IsNumberOf q at))
    (IsInBefore q (at + 1)) (IsNumberBefore q at) (λ word n. word ≡ at → IsNumberOf q at n)
    (IsNumberBefore q (at + 1)) of a b
    (λ d all word l. all word (omega arith)) (λ d all. all at (omega arith))
    (λ d all here. below_more (λ word. IsNumberOf q word (slice_index d.words word)) at all here)
    (λ word n w early here l. elim (cases_eq word at) [
      | inl same ↦ subst (λ (i : ℕ). IsNumberOf q i n) (sym same) (here same)
      | inr other ↦ early (omega arith)
    ])

-- when the last word is confined, the facts are confined to the question
pub before-all : (q : QuestionData) (at : ℕ) (f g : FactsView) (ns : List Node) → at ≡ 16
    → AreConfined f g ns (IsInBefore q at) (IsNumberBefore q at)
    → AreConfined f g ns (IsInQuestion q) (IsNumberBefore q 16)
before-all q at f g ns e a = subst (λ (i : ℕ). AreConfined f g ns (IsInBefore q i) (IsNumberBefore q i)) e a
