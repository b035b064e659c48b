-- Answers made value by value: one more value folds into the answer of those before it, and values make at most one
-- answer.
use Rattle.std.proofs.lemmas.Grind.{common_steps}
use Rattle.std.proofs.Common.{◌≡◌, ℕ, ◌^◌, ◌<◌, ◌≤◌, List, [], ◌∷◌, ◌++◌, get_or, Option, Some, None, refl, sym, ap, subst, ◌∙◌, inl, inr, arith, map}
use Rattle.std.specs.Prelude.{Contains, All, find, option_map, unwrap_or, ◌==◌, if◌then◌else◌}
use Rattle.std.proofs.lemmas.Bool.{cases_eq, cases_lt, lt-ltb, le-ltb, eq-eqb, ne_eqb}
use Rattle.std.proofs.lemmas.List.Folds.{find-append}
use Rattle.std.proofs.lemmas.Nat.{and_le_r}
use Rattle.std.proofs.lemmas.List.{map_push}
use Rattle.std.proofs.lemmas.List.Elements.{All-nil, All-cons, All-push, All-contains, Contains-push, Contains-append_left, Contains-get_or}
use Rattle.sf_check.specs.laws.ContainsLaws.{contains_cons, contains_here, contains_there}
use Rattle.sf_run.specs.Common.{Action, Allow, Answer}
use Rattle.sf_run.specs.laws.InputLaws.{map_contains}
use Rattle.sf_run.specs.Answers.{action_bits, data_bits, action_number, action_of, rank, IsAnswer, folded_answer}

-- ---- names and numbers

-- the number of the action that a number names is that number
pub number-action_of : (n : ℕ) → action_number (action_of n) ≡ n
number-action_of n = grind (arith, common_steps)

-- ---- the newest value with an action

-- where an action is among those of the values, some value has it
find_among : (vs : List ℕ) (n : ℕ) → Contains (map action_bits vs) n → (v : ℕ)
    × (find (λ v. action_bits v == n) vs ≡ Some v)
find_among [] n (k, lt, e) = absurd (omega arith)
find_among (u ∷ vs) n c = elim (cases_eq (action_bits u) n) [
  | inl e ↦ (u, rw (eq-eqb (action_bits u) n e) refl)
  | inr ne ↦ elim (contains_cons (action_bits u) (map action_bits vs) n c) [
    | inl e ↦ absurd (ne e)
    | inr later ↦ let found = find_among vs n later in (found.0, rw (ne_eqb (action_bits u) n ne) found.1)
  ]
]

-- where an action is none of those of the values, no value has it
find_none : (vs : List ℕ) (n : ℕ) → ((v : ℕ) → Contains (map action_bits vs) v → n ≡ v → ⊥)
    → find (λ v. action_bits v == n) vs ≡ None
find_none [] n other = refl
find_none (u ∷ vs) n other =
    rw (ne_eqb (action_bits u) n (λ e. other (action_bits u)
    (contains_here (action_bits u) (map action_bits vs) (action_bits u) refl) (sym e)))
    (find_none vs n (λ v c. other v (contains_there (action_bits u) (map action_bits vs) v c)))

-- ---- one more value

abbrev actions : List ℕ → List ℕ
actions vs = 0x7fff0000 ∷ map action_bits vs

actions_push : (vs : List ℕ) (v : ℕ) → actions (vs ++ v ∷ []) ≡ actions vs ++ action_bits v ∷ []
actions_push vs v = ap (λ (t : List ℕ). 0x7fff0000 ∷ t) (map_push action_bits vs v)

abbrev data_of : ℕ → List ℕ → ℕ
data_of n vs = if n == 0x7fff0000 then 0 else unwrap_or (option_map data_bits (find (λ v. action_bits v == n) vs)) 0

-- the data stays where a value, or ALLOW, has the action
data_same : (vs : List ℕ) (v n : ℕ) → Contains (actions vs) n → data_of n vs ≡ data_of n (vs ++ v ∷ [])
data_same vs v n c = elim (contains_cons 0x7fff0000 (map action_bits vs) n c) [
  | inl e ↦ rw (eq-eqb n 0x7fff0000 (sym e)) refl
  | inr there ↦
      let found = (find_among vs n there).1 in
      ap (λ (o : Option ℕ). if n == 0x7fff0000 then 0 else unwrap_or (option_map data_bits o) 0)
      (found ∙ sym (find-append (λ u. action_bits u == n) vs (v ∷ []) ∙ rw found refl))
]

lower : (vs : List ℕ) (a : Answer) (v : ℕ) → IsAnswer vs a → rank (action_bits v) < rank (action_number a.action)
    → IsAnswer (vs ++ v ∷ []) (record { action = action_of (action_bits v); info = data_bits v })
lower vs a v h lt =
    let n = action_bits v in
    let same : action_number (action_of n) ≡ n = number-action_of n in
    let above : (u : ℕ) → Contains (actions vs) u → rank n < rank u =
    λ u c. let le : rank (action_number a.action) ≤ rank u = All-contains (λ m. rank (action_number a.action) ≤ rank m)
    (actions vs) u h.lowest c in omega arith in
    let other : (u : ℕ) → Contains (actions vs) u → n ≡ u → ⊥ = λ u c e. let lt' = above u c in
    let r : rank n ≡ rank u = ap rank e in omega arith in
    let not_allow : n ≡ 0x7fff0000 → ⊥ = other 0x7fff0000
    (contains_here 0x7fff0000 (map action_bits vs) 0x7fff0000 refl) in
    let none = find_none vs n (λ u c. other u (contains_there 0x7fff0000 (map action_bits vs) u c)) in
    let found : find (λ u. action_bits u == n) (vs ++ v ∷ []) ≡ Some v =
    find-append (λ u. action_bits u == n) vs (v ∷ []) ∙ rw (none, eq-eqb n n refl) refl in
    let pushed = sym (actions_push vs v) in
    record {
      among = subst (λ (m : ℕ). Contains (actions (vs ++ v ∷ [])) m) (sym same)
          (subst (λ (t : List ℕ). Contains t n) pushed (Contains-push (actions vs) n));
      lowest = subst (λ (m : ℕ). All (λ k. rank m ≤ rank k) (actions (vs ++ v ∷ []))) (sym same)
          (subst (λ (t : List ℕ). All (λ k. rank n ≤ rank k) t) pushed
          (All-push (λ m. rank n ≤ rank m) (actions vs) n (λ k d k-lt.
          omega (arith, above (get_or (actions vs) k d) (Contains-get_or (actions vs) k d k-lt))) (omega arith)));
      named = ap action_of (sym same);
      data_is = subst (λ (m : ℕ). data_bits v ≡ data_of m (vs ++ v ∷ [])) (sym same)
          (rw (ne_eqb n 0x7fff0000 not_allow, found) refl);
    }

kept : (vs : List ℕ) (a : Answer) (v : ℕ) → IsAnswer vs a → rank (action_number a.action) ≤ rank (action_bits v)
    → IsAnswer (vs ++ v ∷ []) a
kept vs a v h le = record {
  among = subst (λ (t : List ℕ). Contains t (action_number a.action)) (sym (actions_push vs v))
      (Contains-append_left (actions vs) (action_bits v ∷ []) (action_number a.action) h.among);
  lowest = subst (λ (t : List ℕ). All (λ m. rank (action_number a.action) ≤ rank m) t) (sym (actions_push vs v))
      (All-push (λ m. rank (action_number a.action) ≤ rank m) (actions vs) (action_bits v) h.lowest le);
  named = h.named;
  data_is = h.data_is ∙ data_same vs v (action_number a.action) h.among;
}

-- the answer of more values is folded from that of fewer
pub answer_more : (vs : List ℕ) (a : Answer) (v : ℕ) → IsAnswer vs a → IsAnswer (vs ++ v ∷ []) (folded_answer a v)
answer_more vs a v h =
    elim (cases_lt (rank (action_bits v)) (rank (action_number a.action))) [
      | inl lt ↦ rw (lt-ltb (rank (action_bits v)) (rank (action_number a.action)) lt) (lower vs a v h lt)
      | inr le ↦ rw (le-ltb (rank (action_bits v)) (rank (action_number a.action)) le) (kept vs a v h le)
    ]

-- no values make an ALLOW
pub answer_none : IsAnswer [] (record { action = Allow; info = 0 })
answer_none = record {
  among = contains_here 0x7fff0000 [] 0x7fff0000 refl;
  lowest = All-cons (λ n. rank 0x7fff0000 ≤ rank n) 0x7fff0000 [] (omega arith)
      (All-nil (λ n. rank 0x7fff0000 ≤ rank n));
  named = refl;
  data_is = refl;
}

-- ---- at most one answer

small : (vs : List ℕ) (n : ℕ) → Contains (actions vs) n → n < 2 ^ 32
small vs n c = elim (contains_cons 0x7fff0000 (map action_bits vs) n c) [
  | inl e ↦ omega arith
  | inr later ↦ let v = map_contains action_bits vs n later in omega (arith, v.2, and_le_r v.0 0xffff0000)
]

rank_is : (m n : ℕ) → m < 2 ^ 32 → n < 2 ^ 32 → rank m ≡ rank n → m ≡ n
rank_is m n p q e = omega arith

abbrev answer : Action → ℕ → Answer
answer a i = record { action = a; info = i }

-- values make at most one answer
pub one : (vs : List ℕ) (a b : Answer) → IsAnswer vs a → IsAnswer vs b → a ≡ b
one vs a b p q =
    let ab : rank (action_number a.action) ≤ rank (action_number b.action) =
    All-contains (λ m. rank (action_number a.action) ≤ rank m) (actions vs) (action_number b.action) p.lowest q.among in
    let ba : rank (action_number b.action) ≤ rank (action_number a.action) =
    All-contains (λ m. rank (action_number b.action) ≤ rank m) (actions vs) (action_number a.action) q.lowest p.among in
    let number : action_number a.action ≡ action_number b.action =
    rank_is (action_number a.action) (action_number b.action) (small vs (action_number a.action) p.among)
    (small vs (action_number b.action) q.among) (omega arith) in
    let action : a.action ≡ b.action = p.named ∙ ap action_of number ∙ sym q.named in
    let info : a.info ≡ b.info = p.data_is ∙ ap (λ (n : ℕ). data_of n vs) number ∙ sym q.data_is in
    answer_is action info
  where
    answer_is : {a a' : Action} {i i' : ℕ} → a ≡ a' → i ≡ i' → answer a i ≡ answer a' i'
    answer_is e f = cc
