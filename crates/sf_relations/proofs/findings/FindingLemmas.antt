-- What a diagram says of two stacks: what is changed, or that they answer alike; and which filters are kept.
use Rattle.sf_relations.proofs.Common.{input-back, input-is, input_by-same, common_steps, ◌≡◌, ℕ, ◌<◌, List, length, Option, Some, None, refl, sym, ap, ◌∙◌, inl, inr, arith, zero, suc, ◌+◌, ◌≤◌, [], ◌∷◌, ◌++◌, drop, slice_index_or, append_assoc, append-nil, drop_all, drop_more, map_push, Input, Insn, Answer, Answers, one, returns_of, Tree, Bits, value, tree_at, KeepsTrees, IsMerged, IsLeastNonzero, input_by, input_bits, answer_with, IsBehaviour, Relation, Example, operation_of, IsExampleAt, value_kept, IsChange, IsUnchanged, IsFinding, IsLeastChange, related-not-0, not-0-related, AnswerTheSame, filters_at, IsKeptOrDropped, drops, keeps, AreKeptUpTo}
use Rattle.sf_relations.proofs.OrderLemmas.{AreEarlierVariables, earlier-variables, first-difference}

-- an example is the same by the store that was
pub example-back : (ts us : List Tree) (before after : ℕ) (bits : Bits) (e : Example) → KeepsTrees ts us
    → before < length ts → after < length ts → IsExampleAt us before after bits e → IsExampleAt ts before after bits e
example-back ts us before after bits e k lb la h = grind (arith, common_steps, value_kept)

-- ---- related answers

-- an input for which the tree is 0 isn't changed
not-changed : (ts : List Tree) (r : Relation) (before after : ℕ) (t : Tree) (old new : List (List Insn)) (bits : Bits)
    (d : Input) (a b : Answer) → IsMerged (operation_of r) (tree_at ts before) (tree_at ts after) t
    → IsBehaviour old ts before → IsBehaviour new ts after → value t bits ≡ 0 → input_by bits ≡ d
    → IsChange old new r d a b → ⊥
not-changed ts r before after t old new bits d a b merged was is none made change =
    let m : ℕ = value (tree_at ts before) bits in
    let n : ℕ = value (tree_at ts after) bits in
    let first : a ≡ answer_with m = one (returns_of old d) a _ change.answered_before (rw made at (was.answers bits)) in
    let second : b ≡ answer_with n = one (returns_of new d) b _ change.answered_after (rw made at (is.answers bits)) in
    related-not-0 r m n (was.small bits) (is.small bits) (rw (first, second) at change.related)
    (sym (merged.values bits) ∙ none)

-- where it is 0 for each input, none is changed
pub unchanged : (ts : List Tree) (r : Relation) (before after : ℕ) (t : Tree) (old new : List (List Insn))
    → IsMerged (operation_of r) (tree_at ts before) (tree_at ts after) t → IsBehaviour old ts before
    → IsBehaviour new ts after → ((bits : Bits) → value t bits ≡ 0) → IsUnchanged old new r
unchanged ts r before after t old new merged was is none d a b change =
    not-changed ts r before after t old new (input_bits d) d a b merged was is (none (input_bits d))
    (input-back d change.input) change

abbrev example_of : Input → Answer → Answer → Example
example_of input before after = record { input = input; before = before; after = after }

same-example : (e f : Example) → e.input ≡ f.input → e.before ≡ f.before → e.after ≡ f.after → e ≡ f
same-example e f input before after = grind (arith, common_steps, example_of)

-- the first input for which it isn't 0 is the least that is changed
pub least-change : (ts : List Tree) (r : Relation) (before after : ℕ) (t : Tree) (old new : List (List Insn))
    (bits : Bits) (e : Example) → IsMerged (operation_of r) (tree_at ts before) (tree_at ts after) t
    → IsBehaviour old ts before → IsBehaviour new ts after → IsLeastNonzero t bits → IsExampleAt ts before after bits e
    → IsLeastChange old new r e
least-change ts r before after t old new bits e merged was is first at =
    let m : ℕ = value (tree_at ts before) bits in
    let n : ℕ = value (tree_at ts after) bits in
    let least : Example = example_of (input_by bits) (answer_with m) (answer_with n) in
    rw (same-example e least at.input at.before_is at.after_is) (record {
      change = record {
        input = input-is bits;
        answered_before = was.answers bits;
        answered_after = is.answers bits;
        related = not-0-related r m n (was.small bits) (is.small bits) (λ e. first.some (merged.values bits ∙ e));
      };
      least = λ d a b earlier change.
          let v : AreEarlierVariables d bits = earlier-variables bits d change.input earlier in
          not-changed ts r before after t old new v.bits d a b merged was is (first.first v.bits v.earlier) v.made
          change;
    })

-- ---- two stacks have one finding of a relation

one-example : (old new : List (List Insn)) (relation : Relation) (e f : Example)
    → IsLeastChange old new relation e → IsLeastChange old new relation f → e ≡ f
one-example old new relation e f le lf = elim (first-difference e.input f.input 512 (omega arith)) [
  | inr (inl before) ↦ absurd (lf.least e.input e.before e.after before le.change)
  | inr (inr before) ↦ absurd (le.least f.input f.before f.after before lf.change)
  | inl same ↦
      let input : e.input ≡ f.input = sym (input-back e.input le.change.input)
      ∙ input_by-same (input_bits e.input) (input_bits f.input) same ∙ input-back f.input lf.change.input in
      same-example e f input
      (one (returns_of old e.input) _ _ le.change.answered_before (rw input lf.change.answered_before))
      (one (returns_of new e.input) _ _ le.change.answered_after (rw input lf.change.answered_after))
]

pub one-finding : (old new : List (List Insn)) (relation : Relation) (a b : Option Example)
    → IsFinding old new relation a → IsFinding old new relation b → a ≡ b
one-finding old new relation None None h k = refl
one-finding old new relation None (Some f) h k = absurd (h f.input f.before f.after k.change)
one-finding old new relation (Some e) None h k = absurd (k e.input e.before e.after h.change)
one-finding old new relation (Some e) (Some f) h k =
    ap (λ (x : Example). Some x) (one-example old new relation e f h k)

-- ---- stacks that answer alike

-- two stacks that have one diagram
pub alike : (ts : List Tree) (id : ℕ) (stack other : List (List Insn)) → IsBehaviour stack ts id
    → IsBehaviour other ts id → AnswerTheSame stack other
alike ts id stack other of_stack of_other d a input =
    let bits : Bits = input_bits d in
    let here : Answer = answer_with (value (tree_at ts id) bits) in
    let first : Answers stack d here = rw (input-back d input) at (of_stack.answers bits) in
    let second : Answers other d here = rw (input-back d input) at (of_other.answers bits) in (
      λ h. rw (one (returns_of stack d) a here h first) second,
      λ h. rw (one (returns_of other d) a here h second) first,
    )

-- ---- what is left answers as the whole stack

abbrev left_of : List (List Insn) → List ℕ → ℕ → List (List Insn)
left_of programs kept count = filters_at programs kept ++ drop count programs

-- a filter that is kept stands behind those that are kept before it
kept-behind : (programs : List (List Insn)) (before : List ℕ) (place : ℕ) → place < length programs
    → left_of programs (before ++ place ∷ []) (suc place) ≡ left_of programs before place
kept-behind programs before place l =
    let next : place + 1 ≡ suc place = omega arith in
    let here = rw next at (drop_more programs place [] l) in
    rw (here, map_push (λ (n : ℕ). slice_index_or programs n []) before place)
    (append_assoc (filters_at programs before) (slice_index_or programs place [] ∷ []) (drop (suc place) programs))

kept-alike : (programs : List (List Insn)) (count : ℕ) (kept : List ℕ) → count ≤ length programs
    → AreKeptUpTo programs count kept → AnswerTheSame programs (left_of programs kept count)
kept-alike programs zero kept l h = rw h (λ d a input. (λ x. x, λ x. x))
kept-alike programs (suc place) kept l h =
    decided h.2 (kept-alike programs place h.0 (omega arith) h.1)
  where
    decided : IsKeptOrDropped programs h.0 place kept → AnswerTheSame programs (left_of programs h.0 place)
        → AnswerTheSame programs (left_of programs kept (suc place))
    decided (drops e same) before = rw e same
    decided (keeps e other) before = rw (e, kept-behind programs h.0 place (omega arith)) before

-- all that are kept answer as the whole stack
pub kept-all-alike : (programs : List (List Insn)) (kept : List ℕ) → AreKeptUpTo programs (length programs) kept
    → AnswerTheSame programs (filters_at programs kept)
kept-all-alike programs kept h =
    let all = kept-alike programs (length programs) kept (omega arith) h in
    rw (drop_all (length programs) programs (omega arith), append-nil (filters_at programs kept)) at all

-- ---- one result

pub one-kept : (programs : List (List Insn)) (count : ℕ) (a b : List ℕ) → AreKeptUpTo programs count a
    → AreKeptUpTo programs count b → a ≡ b
one-kept programs zero a b h k = h ∙ sym k
one-kept programs (suc place) a b h k =
    decided h.2 (rw (← one-kept programs place h.0 k.0 h.1 k.1) at k.2)
  where
    decided : IsKeptOrDropped programs h.0 place a → IsKeptOrDropped programs h.0 place b → a ≡ b
    decided (drops e same) (drops f too) = e ∙ sym f
    decided (drops e same) (keeps f other) = absurd (other same)
    decided (keeps e other) (drops f too) = absurd (other too)
    decided (keeps e other) (keeps f too) = e ∙ sym f

-- ---- one place more

-- one more filter is kept
pub filters-more : (programs : List (List Insn)) (kept more : List ℕ) (place : ℕ) → more ≡ kept ++ place ∷ []
    → filters_at programs kept ++ slice_index_or programs place [] ∷ [] ≡ filters_at programs more
filters-more programs kept more place e = grind (arith, common_steps, map_push)

pub kept-more : (programs : List (List Insn)) (place : ℕ) (kept more : List ℕ) → AreKeptUpTo programs place kept
    → IsKeptOrDropped programs kept place more → AreKeptUpTo programs (place + 1) more
kept-more programs place kept more h d = grind (arith, common_steps)
