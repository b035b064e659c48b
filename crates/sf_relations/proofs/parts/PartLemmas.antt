-- The answers of older filters and newer ones, joined; and the diagrams of the answers of parts of a stack.
use Rattle.sf_relations.proofs.Common.{nat_tests, common_steps, ◌≡◌, ℕ, ◌<◌, ◌≤◌, Bool, List, [], ◌∷◌, ◌++◌, length, map, refl, sym, ap, subst, ◌∙◌, inl, inr, arith, suc, ◌+◌, ◌-◌, take, drop, nat_lt, if◌then◌else◌, slice_index, slice_index_or, le-ltb, cases_eq, append-nil, append_assoc, map-append, reverse-append, drop_more, get_or_append_left, get_or_push, length_push, All-head, Input, Insn, Allow, Answer, IsAnswer, action_bits, action_number, rank, folded_answer, answer_more, answer_none, number-action_of, one, returns_of, Tree, value, tree_at, KeepsTrees, folded_of, IsMerged, Fold, input_by, answer_with, IsBehaviour, AreParts, behaviour_kept}

-- ---- of two the lower one by f, the first one where neither is

module _ {X : Type 0} where
  abbrev pub lower_of : (X → ℕ) → X → X → X
  lower_of f n o = if nat_lt (f o) (f n) then o else n

  lower-assoc : (f : X → ℕ) (a b c : X) → lower_of f (lower_of f a b) c ≡ lower_of f a (lower_of f b c)
  lower-assoc f a b c = grind (arith, nat_tests)

  lower-first : (f : X → ℕ) (n o : X) → f n ≤ f o → lower_of f n o ≡ n
  lower-first f n o l = rw (le-ltb (f o) (f n) l) refl

-- ---- answers

abbrev rank_of : Answer → ℕ
rank_of a = rank (action_number a.action)

-- the answer of newer filters and that of older ones make the answer of all
abbrev joined_answer : Answer → Answer → Answer
joined_answer newer older = lower_of rank_of newer older

abbrev allowed : Answer
allowed = record { action = Allow; info = 0 }

-- one more value is folded in as its answer is joined
folded-joined : (a : Answer) (n : ℕ) → folded_answer a n ≡ joined_answer a (answer_with n)
folded-joined a n = grind (arith, common_steps, number-action_of)

-- the answer with more values, one after the other
abbrev folded_all : Answer → List ℕ → Answer
folded_all a [] = a
folded_all a (n ∷ ns) = folded_all (folded_answer a n) ns

answer-all : (vs ns : List ℕ) (a : Answer) → IsAnswer vs a → IsAnswer (vs ++ ns) (folded_all a ns)
answer-all vs [] a h = rw (append-nil vs) h
answer-all vs (n ∷ ns) a h =
    rw (append_assoc vs (n ∷ []) ns) at (answer-all (vs ++ n ∷ []) ns (folded_answer a n) (answer_more vs a n h))

folded-behind : (ns : List ℕ) (a c : Answer) → folded_all (joined_answer a c) ns ≡ joined_answer a (folded_all c ns)
folded-behind [] a c = refl
folded-behind (n ∷ ns) a c =
    let one_more : folded_answer (joined_answer a c) n ≡ joined_answer a (folded_answer c n)
    = folded-joined (joined_answer a c) n ∙ lower-assoc rank_of a c (answer_with n)
    ∙ ap (λ (x : Answer). joined_answer a x) (sym (folded-joined c n)) in
    ap (λ (x : Answer). folded_all x ns) one_more ∙ folded-behind ns a (folded_answer c n)

-- older values and newer ones together have the answer that joins theirs
joined-answers : (vs ns : List ℕ) (a b : Answer) → IsAnswer vs a → IsAnswer ns b
    → IsAnswer (vs ++ ns) (joined_answer a b)
joined-answers vs ns a b h k =
    let low : rank_of a ≤ rank_of allowed
    = All-head (λ (n : ℕ). rank (action_number a.action) ≤ rank n) 0x7fff0000 (map action_bits vs) h.lowest in
    let begun : a ≡ joined_answer a allowed = sym (lower-first rank_of a allowed low) in
    let b_is : folded_all allowed ns ≡ b
    = one ns (folded_all allowed ns) b (answer-all [] ns allowed answer_none) k in
    let same : folded_all a ns ≡ joined_answer a b
    = ap (λ (x : Answer). folded_all x ns) begun ∙ folded-behind ns a allowed
    ∙ ap (λ (x : Answer). joined_answer a x) b_is in
    subst (λ (x : Answer). IsAnswer (vs ++ ns) x) same (answer-all vs ns a h)

returns-joined : (older newer : List (List Insn)) (d : Input)
    → returns_of (older ++ newer) d ≡ returns_of newer d ++ returns_of older d
returns-joined older newer d = grind (arith, common_steps, map-append, reverse-append)

-- ---- diagrams of answers

with-if : (b : Bool) (m n : ℕ) → answer_with (if b then m else n) ≡ (if b then answer_with m else answer_with n)
with-if b m n = grind arith

folded-with : (newer older : ℕ) → answer_with (folded_of newer older)
    ≡ joined_answer (answer_with newer) (answer_with older)
folded-with newer older = grind (arith, common_steps, number-action_of, with-if)

pub behaviours-joined : (ts us : List Tree) (first last : List (List Insn)) (older newer id : ℕ) → id < length us
    → IsMerged Fold (tree_at ts newer) (tree_at ts older) (tree_at us id) → IsBehaviour first ts older
    → IsBehaviour last ts newer → IsBehaviour (first ++ last) us id
behaviours-joined ts us first last older newer id within merged hf hl = record {
  within = within;
  small = λ bits. grind (arith, merged.values bits, hf.small bits, hl.small bits);
  answers = λ bits.
      let m : ℕ = value (tree_at ts newer) bits in
      let n : ℕ = value (tree_at ts older) bits in
      let d : Input = input_by bits in
      rw (merged.values bits, folded-with m n, returns-joined first last d) (joined-answers (returns_of last d)
      (returns_of first d) (answer_with m) (answer_with n) (hl.answers bits) (hf.answers bits));
}

-- ---- a list with one element more

module _ {X : Type 0} where
  pub pushed : (P : ℕ → X → Type 0) (xs ys : List X) (x d : X) (n : ℕ) → length xs ≡ n
      → ((k : ℕ) → k < n → P k (slice_index_or xs k d)) → P n x → ys ≡ xs ++ x ∷ []
      → (k : ℕ) → k < n + 1 → P k (slice_index_or ys k d)
  pushed P xs ys x d n long before here e k l = elim (cases_eq k n) [
    | inl at ↦ rw (e, get_or_push xs x d k (omega (arith, long)), at) here
    | inr ne ↦ rw (e, get_or_append_left xs (x ∷ []) d k (omega (arith, long))) (before k (omega arith))
  ]

  pub count-pushed : (xs ys : List X) (x : X) (n : ℕ) → length xs ≡ n → ys ≡ xs ++ x ∷ [] → length ys ≡ n + 1
  count-pushed xs ys x n long e = ap length e ∙ length_push xs x ∙ ap (λ (m : ℕ). m + 1) long

-- ---- parts

abbrev newest : List (List Insn) → ℕ → List Insn
newest programs k = slice_index_or programs (length programs - 1 - k) []

abbrev last_programs : List (List Insn) → ℕ → List (List Insn)
last_programs programs k = drop (length programs - k) programs

pub parts-kept : (ts us : List Tree) (programs : List (List Insn)) (many : ℕ) (alone last : List ℕ) → KeepsTrees ts us
    → AreParts ts programs many alone last → AreParts us programs many alone last
parts-kept ts us programs many alone last k h = grind (arith, common_steps, behaviour_kept, newest, last_programs)

-- one filter more
pub parts-more : (ts us : List Tree) (programs : List (List Insn)) (i one joined : ℕ)
    (alone last more_alone more_last : List ℕ) → KeepsTrees ts us → AreParts ts programs i alone last
    → IsBehaviour (newest programs i ∷ []) us one → IsBehaviour (last_programs programs (i + 1)) us joined
    → more_alone ≡ alone ++ one ∷ [] → more_last ≡ last ++ joined ∷ []
    → AreParts us programs (i + 1) more_alone more_last
parts-more ts us programs i one joined alone last more_alone more_last k h of_one of_last e f =
    let kept : AreParts us programs i alone last = parts-kept ts us programs i alone last k h in
    record {
      alone_count = count-pushed alone more_alone one i h.alone_count e;
      last_count = count-pushed last more_last joined (i + 1) h.last_count f;
      each_alone = pushed (λ (n id : ℕ). IsBehaviour (newest programs n ∷ []) us id) alone more_alone one 0 i
          h.alone_count kept.each_alone of_one e;
      each_last = pushed (λ (n id : ℕ). IsBehaviour (last_programs programs n) us id) last more_last joined 0 (i + 1)
          h.last_count kept.each_last of_last f;
    }

-- the program at a place, cut out
pub one-program : (programs : List (List Insn)) (place : ℕ) → place < length programs
    → take (place + 1 - place) (drop place programs) ≡ slice_index_or programs place [] ∷ []
one-program programs place l = grind (arith, common_steps, take, drop_more)

-- the last programs with the next older one
pub one-more-last : (programs : List (List Insn)) (i : ℕ) → i < length programs
    → (newest programs i ∷ []) ++ last_programs programs i ≡ last_programs programs (i + 1)
one-more-last programs i l = grind (arith, common_steps, drop, drop_more)

-- ---- parts by the place of a filter

pub of-all : (ts : List Tree) (programs : List (List Insn)) (alone last : List ℕ)
    → AreParts ts programs (length programs) alone last
    → IsBehaviour programs ts (slice_index last (length programs))
of-all ts programs alone last h = grind (arith, common_steps, drop)

pub of-one : (ts : List Tree) (programs : List (List Insn)) (alone last : List ℕ) (place : ℕ)
    → AreParts ts programs (length programs) alone last → place < length programs
    → IsBehaviour (slice_index_or programs place [] ∷ []) ts (slice_index alone (length programs - 1 - place))
of-one ts programs alone last place h l =
    let at : length programs - 1 - (length programs - 1 - place) ≡ place = omega arith in
    rw at at (h.each_alone (length programs - 1 - place) (omega arith))

pub of-behind : (ts : List Tree) (programs : List (List Insn)) (alone last : List ℕ) (place : ℕ)
    → AreParts ts programs (length programs) alone last → place < length programs
    → IsBehaviour (drop (suc place) programs) ts (slice_index last (length programs - 1 - place))
of-behind ts programs alone last place h l =
    let at : length programs - (length programs - 1 - place) ≡ suc place = omega arith in
    rw at at (h.each_last (length programs - 1 - place) (omega arith))
