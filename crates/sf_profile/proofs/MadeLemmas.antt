-- The bytes that are written are the profile's filter.
use Rattle.sf_profile.proofs.Common.{common_steps, ◌≡◌, ℕ, ◌*◌, ◌/◌, ◌≤◌, List, [], ◌∷◌, true, length, length-append, map, ap, ◌∙◌, refl, arith, nat_tests, length-map, RawInsn, spelling, AreInsns, PlanData, form, fits, form_bytes, raw_of, IsFilterOf, Instruction, subst, sym, Spells}
use Rattle.sf_profile.proofs.RunLemmas.{insn_of}
use Rattle.sf_profile.proofs.JumpLemmas.{form_leads}
use Rattle.sf_profile.proofs.LawfulLemmas.{form_lawful}
use Rattle.sf_profile.proofs.PlainLemmas.{form_plain}
use Rattle.sf_profile.proofs.SpellingLemmas.{spells}
use Rattle.sf_profile.proofs.form.FormLemmas.{form_answers}

pub fitting : (code : List Instruction) → fits code ≡ true → length code ≤ 4096
fitting code h = grind (arith, nat_tests)

length_spelling : (raws : List RawInsn) → length (spelling raws) ≡ 8 * length raws
length_spelling [] = refl
length_spelling (r ∷ raws) = grind (arith, common_steps, length-append, length_spelling raws)

-- an instruction has eight bytes
pub counted : (plan : PlanData) (bytes : List ℕ) → bytes ≡ form_bytes plan → length bytes / 8 ≡ length (form plan)
counted plan bytes same =
    let all = ap length same ∙ length_spelling (map raw_of (form plan)) in
    let each = length-map (form plan) raw_of in
    omega arith

pub made : (plan : PlanData) (raws : List RawInsn) (bytes : List ℕ) → bytes ≡ spelling raws → AreInsns raws
    → raws ≡ map raw_of (form plan) → fits (form plan) ≡ true → IsFilterOf bytes plan
made plan raws bytes spelled fields same fit = record {
  program = map insn_of (form plan);
  spelled = record {
    raws = raws;
    fields = fields;
    spelled = spelled;
    read = subst (λ (r : List RawInsn). Spells r (map insn_of (form plan))) (sym same)
        (spells 0 (form plan) (form_leads plan));
    lawful = form_lawful plan (fitting (form plan) fit) written;
  };
  answers = λ d input. form_answers plan d (fitting (form plan) fit) written input;
  plain = form_plain plan;
}
  where
    written : AreInsns (map raw_of (form plan))
    written = subst AreInsns same fields
