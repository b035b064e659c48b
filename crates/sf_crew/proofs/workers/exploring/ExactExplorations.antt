-- Explorations of plain stacks end exactly.
use Rattle.sf_crew.proofs.Common.{ℕ, List, sym, subst, IsPlain, BookData, IsExplorationOf, IsExactExploration, Insn, HasMembers, worked_off, enough, IsPlainWhereStackIs, plain_has_members}

pub exact_end : (stack : List (List Insn)) (budget : ℕ) (s : BookData) → IsExplorationOf stack budget s
    → IsPlainWhereStackIs s → IsPlain stack → IsExactExploration stack budget s
exact_end stack budget s h plain p =
    let members : HasMembers s = plain_has_members s (plain.book (subst IsPlain (sym h.of) p)) in
    subst (λ (y : List (List Insn) × ℕ). IsExactExploration y.0 y.1 s) (λ i. (h.of i, h.with i))
    (record { enough = enough s h.settled members h.end; worked = worked_off s h.settled members })
