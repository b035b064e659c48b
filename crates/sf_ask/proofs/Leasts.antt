-- The input that has in each word the least number that facts leave for it.
use Rattle.sf_ask.proofs.Common.{arith, ◌≡◌, ℕ, ◌<◌, ◌≤◌, true, List, length, sym, ap, ◌∙◌, ext_get_or, slice_index, Input, ArePlainNodes, Node, Admits, FactsView, Agrees, Covers, known_at, agreeing-word, low-left, words-agree, PieceData, is_member, IsPlainPiece, IsLeastInput}

-- inputs of the same numbers are one
pub same-input : (d e : Input) → length d.words ≡ 16 → length e.words ≡ 16
    → ((word : ℕ) → word < 16 → slice_index d.words word ≡ slice_index e.words word) → d ≡ e
same-input d e ld le same =
    ap (λ (words : List ℕ). let x : Input = record { words = words } in x)
    (ext_get_or 0 d.words e.words (ld ∙ sym le) (λ i l. same i (omega arith)))

-- each number of the least input is one that its word may have
pub least-admitted : (f : FactsView) (ns : List Node) (d : Input) → Covers f ns → IsLeastInput f d → (word : ℕ)
    → word < 16 → Admits (known_at f.known word) (slice_index d.words word)
least-admitted f ns d covers h word w = rw (h.is word w) (low-left f ns word covers w).admitted

-- no input that agrees with the facts has a smaller number in any word
pub least-below : (f : FactsView) (ns : List Node) (d other : Input) → Covers f ns → IsLeastInput f d
    → Agrees f ns other → (word : ℕ) → word < 16 → slice_index d.words word ≤ slice_index other.words word
least-below f ns d other covers h agrees word w = search (arith, agreeing-word)

-- where a pool has only words and constants, the least input agrees with the facts
pub least-agrees : (f : FactsView) (ns : List Node) (d : Input) → Covers f ns → ArePlainNodes ns
    → IsLeastInput f d → Agrees f ns d
unfolding Agrees
least-agrees f ns d covers plain h = words-agree f ns d covers plain
    (λ word w. rw (h.is word w) (low-left f ns word covers w))

-- on a plain stack the least input that the facts of a piece leave is a member
pub plain-least : (p : PieceData) (d : Input) → IsPlainPiece p → Covers p.facts p.pool → IsLeastInput p.facts d
    → is_member p d ≡ true
plain-least p d exact covers h = exact.exact d h.input (least-agrees p.facts p.pool d covers exact.nodes h)
