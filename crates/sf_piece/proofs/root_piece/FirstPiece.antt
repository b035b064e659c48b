-- The first piece of a stack, by the rules.
use Rattle.sf_piece.proofs.Common.{◌≡◌, ◌≢◌, ℕ, ◌<◌, List, [], ◌∷◌, ◌++◌, length, refl, sym, ap, ◌∙◌, inl, inr, arith, cases_lt, get_or_append_left, get_or_push, length_push, Insn, Node, Const, Word, NodeId, IsPool, node_at, Extends, FactsView, StartsBy, IsFirst, Agrees, ArePlainNodes, Covers, Input, IsInput, IsLawfulStack, IsRoot, IsPieceOfTree, is_member}
use Rattle.sf_piece.proofs.AtHand.{first_piece}
use Rattle.sf_piece.proofs.Lawful.{lawful_first}

word_clash : (a c : ℕ) → Word a ≡ Const c → ⊥
word_clash a c e = absurd cc

-- the first sixteen nodes are words, so 0 is the next one
first_zero : (old new : List Node) (id : NodeId) → length old ≡ 16 → IsPool new → Extends old new → id.0 < length new
    → node_at new id.0 ≡ Const 0 → (((i : ℕ) → i < length old → node_at old i ≢ Const 0) → new ≡ old ++ Const 0 ∷ [])
    → (length new ≡ 17) × (node_at new 16 ≡ Const 0) × (id.0 ≡ 16)
first_zero old new id count lawful extends within here added =
    let none : (i : ℕ) → i < length old → node_at old i ≢ Const 0
    = λ i l e. word_clash i 0 (sym (lawful.word i (omega (arith, l, count)))
    ∙ ap (λ (ns : List Node). node_at ns i) extends.1 ∙ get_or_append_left old extends.0 (Const 0) i l ∙ e) in
    let more : new ≡ old ++ Const 0 ∷ [] = added none in
    let long : length new ≡ 17 = omega (arith, ap length more, length_push old (Const 0), count) in (
      long,
      ap (λ (ns : List Node). node_at ns 16) more ∙ get_or_push old (Const 0) (Const 0) 16 count,
      elim (cases_lt id.0 16) [
        | inl l ↦ absurd (word_clash id.0 0 (sym (lawful.word id.0 l) ∙ here))
        | inr g ↦ omega (arith, g, within, long)
      ],
    )

pub first_rule : (stack : List (List Insn)) (old new : List Node) (id : NodeId) (fs : FactsView) → length old ≡ 16
    → IsPool new → Extends old new → id.0 < length new → node_at new id.0 ≡ Const 0
    → (((i : ℕ) → i < length old → node_at old i ≢ Const 0) → new ≡ old ++ Const 0 ∷ []) → StartsBy fs new
    → IsFirst stack (first_piece stack new id fs)
first_rule stack old new id fs count lawful extends within here added starts =
    let zero = first_zero old new id count lawful extends within here added in
    record {
      stack_is = refl;
      name = refl;
      conditions = refl;
      pool = lawful;
      count = zero.0;
      zero = zero.1;
      facts = starts;
      machine = refl;
      place = zero.2;
    }

-- the first piece is lawful, in the tree, and its root
pub first_made : (stack : List (List Insn)) (pool : List Node) (zero_id : NodeId) (fs : FactsView)
    → IsLawfulStack stack → IsFirst stack (first_piece stack pool zero_id fs) → Covers fs pool
    → ((d : Input) → IsInput d → Agrees fs pool d) → ArePlainNodes pool
    → IsPieceOfTree (first_piece stack pool zero_id fs) × IsRoot stack (first_piece stack pool zero_id fs)
    × IsFirst stack (first_piece stack pool zero_id fs)
unfolding is_member
first_made stack pool zero_id fs stacked first covers known nodes =
    let lawful = lawful_first stack pool zero_id fs stacked first covers known nodes in (
      record {
        lawful = lawful;
        reached = record { first = first_piece stack pool zero_id fs; starts = first; sides = []; below = refl };
      },
      record { of = refl; name = refl; named = lawful.named; all = λ d inp. refl },
      first,
    )
