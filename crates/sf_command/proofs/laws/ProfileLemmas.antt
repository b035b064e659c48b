-- The filter of a profile, compared with other filters.
use Rattle.sf_command.proofs.Common.{◌≡◌, ◌∙◌, ℕ, List, [], ◌∷◌, Option, None, ap, refl, subst, sym, Input, IsInput, Insn, SpellsProgram, Answers, Answer, SpellPrograms, SpellStack, PlanData, IsFilterOf, meaning, IsFinding, IsUnchanged, AreRelated, Example, Looser, Compared, IsComparison, finding_of}

pub kept : ((bytes : List ℕ) (a b : List Insn) → SpellsProgram bytes a → SpellsProgram bytes b → a ≡ b)
    → (bytes : List ℕ) (plan : PlanData) (c : Compared) (d : Input) (a : Answer)
    → IsFilterOf bytes plan → SpellStack (bytes ∷ []) c.old → IsComparison c → finding_of c.findings Looser ≡ None
    → IsInput d → Answers c.new d a → AreRelated Looser (meaning plan d) a → ⊥
kept one bytes plan c d a filter spelled comparison never input answers further = by c.old refl spelled.spelled
  where
    unchanged : IsUnchanged c.old c.new Looser
    unchanged = subst (λ (found : Option Example). IsFinding c.old c.new Looser found) never
        comparison.findings.looser

    by : (stack : List (List Insn)) → c.old ≡ stack → SpellPrograms (bytes ∷ []) stack → ⊥
    by [] e spelled = absurd spelled
    by (p ∷ q ∷ rest) e spelled = absurd spelled.1
    by (p ∷ []) e spelled =
        let same : c.old ≡ filter.program ∷ [] = e
        ∙ ap (λ (q : List Insn). q ∷ []) (one bytes p filter.program spelled.0 filter.spelled) in
        unchanged d (meaning plan d) a (record {
          input = input;
          answered_before = subst (λ (st : List (List Insn)). Answers st d (meaning plan d)) (sym same)
              (filter.answers d input);
          answered_after = answers;
          related = further;
        })
