-- What a comparison tells of questions.
use Rattle.sf_compare.proofs.Common.{◌≡◌, ◌≢◌, ◌⊎◌, ℕ, ◌≤◌, true, false, List, [], ◌∷◌, ◌++◌, None, refl, sym, subst, inl, inr, arith, ◌==◌, codes, if◌then◌else◌, cases_eq, cases_lt, ne_eqb, nat_tests, append-nil, append_assoc, Input, IsInput, Insn, Answer, Action, KillProcess, KillThread, Trap, Errno, UserNotif, Trace, Log, Allow, Other, Answers, IsAnswer, action_number, action_of, folded_answer, answer_more, answer_none, returns_of, reach_by, ActionSet, has_action, QuestionData, Breaks, actions_of, Looser, IsFinding, reach_of, IsUpward}

-- values make an answer, and so do they with more of them
answer-more : (vs ns : List ℕ) → (a : Answer) × IsAnswer vs a → (a : Answer) × IsAnswer (vs ++ ns) a
answer-more vs [] h = rw (append-nil vs) h
answer-more vs (n ∷ ns) h =
    rw (append_assoc vs (n ∷ []) ns) at
    (answer-more (vs ++ n ∷ []) ns (folded_answer h.0 n, answer_more vs h.0 n h.1))

-- each stack answers each input
answered : (programs : List (List Insn)) (d : Input) → (a : Answer) × Answers programs d a
answered programs d = answer-more [] (returns_of programs d) (record { action = Allow; info = 0 }, answer_none)

-- where nothing gets further, what breaks the question under the new stack breaks it under the old one
pub breaks_no_more : (old new : List (List Insn)) (q : QuestionData) (d : Input)
    → IsFinding old new Looser None → IsUpward q.actions → IsInput d → Breaks new q d → Breaks old q d
breaks_no_more old new q d never upward is broken =
    let before = answered old d in
    record {
      inside = broken.inside;
      answer = before.0;
      answers = before.1;
      asked = rw before.1.named (upward (action_number broken.answer.action) (action_number before.0.action)
          (rw broken.answers.named at broken.asked)
          (elim (cases_lt (reach_of before.0.action) (reach_of broken.answer.action)) [
            | inl further ↦ absurd (never d before.0 broken.answer (record {
              input = is;
              answered_before = before.1;
              answered_after = broken.answers;
              related = further;
            }))
            | inr no_further ↦ no_further
          ]));
    }

-- ---- the actions that let a call through

abbrev usual : ActionSet
usual = actions_of (codes "ALLOW" ∷ codes "LOG" ∷ [])

unless : (n c : ℕ) (x y : Action) → has_action usual x ≡ false → has_action usual y ≡ false
    → has_action usual (if n == c then x else y) ≡ false
unless n c x y p q = elim (n == c) as (λ b. has_action usual (if b then x else y) ≡ false) [ true ↦ p | false ↦ q ]

beside : (n c : ℕ) (x y : Action) → n ≢ c → has_action usual y ≡ false
    → has_action usual (if n == c then x else y) ≡ false
beside n c x y ne q = rw (ne_eqb n c ne) q

-- the set has no other action
no_other : (n : ℕ) → n ≢ 0x7fff0000 → n ≢ 0x7ffc0000 → has_action usual (action_of n) ≡ false
no_other n not_allow not_log =
    unless n 0x80000000 KillProcess _ refl (unless n 0 KillThread _ refl
    (unless n 0x00030000 Trap _ refl (unless n 0x00050000 Errno _ refl
    (unless n 0x7fc00000 UserNotif _ refl (unless n 0x7ff00000 Trace _ refl
    (beside n 0x7ffc0000 Log _ not_log (beside n 0x7fff0000 Allow (Other n) not_allow refl)))))))

-- the numbers of the two actions
usual_number : (n : ℕ) → has_action usual (action_of n) ≡ true → (n ≡ 0x7fff0000) ⊎ (n ≡ 0x7ffc0000)
usual_number n h = elim (cases_eq n 0x7fff0000) [
  | inl e ↦ inl e
  | inr not_allow ↦ elim (cases_eq n 0x7ffc0000) [
    | inl e ↦ inr e
    | inr not_log ↦ let none = no_other n not_allow not_log in absurd cc
  ]
]

far_number : (n : ℕ) → 2 ≤ reach_by n → (n ≡ 0x7fff0000) ⊎ (n ≡ 0x7ffc0000)
far_number n h = grind (arith, nat_tests)

far : (n : ℕ) → (n ≡ 0x7fff0000) ⊎ (n ≡ 0x7ffc0000) → 2 ≤ reach_by n
far n (inl e) = subst (λ (m : ℕ). 2 ≤ reach_by m) (sym e) (omega arith)
far n (inr e) = subst (λ (m : ℕ). 2 ≤ reach_by m) (sym e) (omega arith)

among : (n : ℕ) → (n ≡ 0x7fff0000) ⊎ (n ≡ 0x7ffc0000) → has_action usual (action_of n) ≡ true
among n (inl e) = subst (λ (m : ℕ). has_action usual (action_of m) ≡ true) (sym e) refl
among n (inr e) = subst (λ (m : ℕ). has_action usual (action_of m) ≡ true) (sym e) refl

pub usual-upward : IsUpward usual
usual-upward n m has reach = among m (far_number m (omega (arith, far n (usual_number n has))))
