-- Comparisons of the same stacks.
use Rattle.sf_compare.proofs.Common.{◌≡◌, ℕ, Bool, List, Option, same_from_decides, Insn, Relation, Looser, Tighter, Different, Pretended, Example, Findings, IsFinding, AreFindingsBetween, Compared, IsComparison}

abbrev OneFinding : Type 0
OneFinding = (old new : List (List Insn)) (r : Relation) (a b : Option Example) → IsFinding old new r a
    → IsFinding old new r b → a ≡ b

abbrev findings_of : Option Example → Option Example → Option Example → Option Example → Findings
findings_of l t d p = record { looser = l; tighter = t; different = d; pretended = p }

same-parts : {l l' t t' d d' p p' : Option Example} → l ≡ l' → t ≡ t' → d ≡ d' → p ≡ p'
    → findings_of l t d p ≡ findings_of l' t' d' p'
same-parts el et ed ep = cc

one-findings : OneFinding → (old new : List (List Insn)) (f g : Findings) → AreFindingsBetween old new f
    → AreFindingsBetween old new g → f ≡ g
one-findings one old new f g h k = same-parts (one old new Looser f.looser g.looser h.looser k.looser)
    (one old new Tighter f.tighter g.tighter h.tighter k.tighter)
    (one old new Different f.different g.different h.different k.different)
    (one old new Pretended f.pretended g.pretended h.pretended k.pretended)

abbrev compared_of : List (List Insn) → List (List Insn) → ℕ → Findings → Bool → Bool → Compared
compared_of old new nodes findings through_old through_new = record {
  old = old;
  new = new;
  nodes = nodes;
  findings = findings;
  through_old = through_old;
  through_new = through_new;
}

same-compared : {o o' n n' : List (List Insn)} {m m' : ℕ} {f f' : Findings} {p p' q q' : Bool} → o ≡ o' → n ≡ n'
    → m ≡ m' → f ≡ f' → p ≡ p' → q ≡ q' → compared_of o n m f p q ≡ compared_of o' n' m' f' p' q'
same-compared eo en em ef ep eq = cc

pub one-comparison : OneFinding → (c d : Compared) → IsComparison c → IsComparison d → c.old ≡ d.old → c.new ≡ d.new
    → c.nodes ≡ d.nodes → c ≡ d
one-comparison finding c d h k first second nodes =
    same-compared first second nodes
    (one-findings finding c.old c.new c.findings d.findings h.findings (rw (← first, ← second) at k.findings))
    (same_from_decides c.through_old d.through_old h.through_old (rw (← first) at k.through_old))
    (same_from_decides c.through_new d.through_new h.through_new (rw (← second) at k.through_new))
