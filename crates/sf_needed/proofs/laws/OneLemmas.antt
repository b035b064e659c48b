-- What is found of the same stack.
use Rattle.sf_needed.proofs.Common.{◌≡◌, ◌∙◌, ℕ, List, Option, None, length, sym, arith, remove, slice_index_or, ext_get_or, Insn, Relation, Looser, Example, IsFinding, AreFoundWithout, AreKeptUpTo, AreNeeds, NeedsData}

abbrev OneFinding : Type 0
OneFinding = (old new : List (List Insn)) (r : Relation) (a b : Option Example) → IsFinding old new r a
    → IsFinding old new r b → a ≡ b

abbrev OneKept : Type 0
OneKept = (programs : List (List Insn)) (a b : List ℕ) → AreKeptUpTo programs (length programs) a
    → AreKeptUpTo programs (length programs) b → a ≡ b

one-findings : OneFinding → (programs : List (List Insn)) (f g : List (Option Example)) → AreFoundWithout programs f
    → AreFoundWithout programs g → f ≡ g
one-findings one programs f g h k = ext_get_or None f g (h.count ∙ sym k.count)
    (λ place l. one programs (remove programs place) Looser (slice_index_or f place None) (slice_index_or g place None)
    (h.each place (omega (arith, h.count))) (k.each place (omega (arith, h.count))))

abbrev needs_of : List (List Insn) → ℕ → List (Option Example) → List ℕ → NeedsData
needs_of stack nodes findings kept = record { stack = stack; nodes = nodes; findings = findings; kept = kept }

same-needs : {s s' : List (List Insn)} {n n' : ℕ} {f f' : List (Option Example)} {k k' : List ℕ} → s ≡ s' → n ≡ n'
    → f ≡ f' → k ≡ k' → needs_of s n f k ≡ needs_of s' n' f' k'
same-needs es en ef ek = cc

pub one-result : OneFinding → OneKept → (m n : NeedsData) → AreNeeds m → AreNeeds n → m.stack ≡ n.stack
    → m.nodes ≡ n.nodes → m ≡ n
one-result finding kept m n h k same nodes =
    same-needs same nodes
    (one-findings finding m.stack m.findings n.findings h.findings (rw (← same) at k.findings))
    (kept m.stack m.kept n.kept h.kept (rw (← same) at k.kept))
