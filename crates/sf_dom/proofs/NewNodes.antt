-- Newer nodes that are taken in: inputs go on to agree, and nothing more follows for any of them.
use Rattle.sf_dom.proofs.Common.{◌≡◌, ℕ, ◌<◌, ◌≤◌, List, length, take, arith, refl, ◌⊎◌, inl, inr, cases_lt, Option, Some, None, MatchOption, IsInput, Input, IsPool, node_at, values_of, value_of, value-node, Node, Word, Known, Has, Admits, known_at, numbers_at, excluded_of, AgreesWith, none-has, IsAtRest, AreTakenIn, TakingInGives, forward_node, IsClosed, IsReduction, ReductionGives, common_steps, value-small}
use Rattle.sf_dom.proofs.Lawful.{reduction-holds}
use Rattle.sf_dom.proofs.PassLaws.{follows}
use Rattle.sf_dom.proofs.Passes.{operands-below}
use Rattle.sf_dom.proofs.propagation.Propagations.{word-below, taken-older}
use Rattle.sf_dom.proofs.Then.{by-older}

-- no number is excluded, or all words are known already
abbrev pub AreWordsKnown : List Known → List ℕ → Type 0
AreWordsKnown ks ex = (16 ≤ length ks) ⊎ ((w : ℕ) → numbers_at ex w ≡ 0)

-- the value of a word isn't excluded for it, where the word's own node is there, or nothing is excluded
kept-node : (ks : List Known) (ex : List ℕ) (ns : List Node) (d : Input) (n : Node) (k : ℕ) → IsPool ns → k < length ns
    → node_at ns k ≡ n → AreWordsKnown ks ex → AgreesWith ks ex ns d → ¬ Has (excluded_of ex n) (value_of ns d k)
kept-node ks ex ns d (Word i) k p l e (inl b) a w =
    let words = p.words in
    let small : i < 16 = word-below k (node_at ns k) (operands-below ns k p l) i e in
    let here : node_at ns i ≡ Word i = p.word i small in
    let same : value_of ns d i ≡ value_of ns d k = search (arith, value-node) in
    (rw (here, same) at (a i (omega arith)).kept) w
kept-node ks ex ns d (Word i) k p l e (inr none) a w = none-has (value_of ns d k) (rw (none i) at w)
kept-node ks ex ns d n k p l e h a w = none-has (value_of ns d k) w

-- Newer nodes that are taken in, up to a place. The older nodes agree with an input.
module _ (old new : List Known) (ex : List ℕ) (ns : List Node) (d : Input) (p : IsPool ns) (i : IsInput d)
    (closed : (j : ℕ) → j < length old → IsClosed (known_at old j)) (a : AgreesWith old ex ns d)
    (words : AreWordsKnown old ex) (kept : take (length old) new ≡ old) where
  older-closed : (m : ℕ) → ((k : ℕ) → length old ≤ k → k < m
      → IsReduction ex k (forward_node new (node_at ns k)) (known_at new k))
      → (k : ℕ) → k < m → IsClosed (known_at new k)
  older-closed m before k l = elim (cases_lt k (length old)) [
    | inl b ↦ rw (taken-older old new k kept b) at (closed k b)
    | inr g ↦ (before k g l).is.known
  ]

  -- a value isn't excluded for its node
  not-excluded : (k : ℕ) → length old ≤ k → k < 16 → ¬ Has (numbers_at ex k) (value_of ns d k)
  not-excluded k l b z = grind (arith, common_steps, none-has)

  -- what follows for a newer node admits its value
  newer-holds : (k : ℕ) → k < length ns → length old ≤ k → ((j : ℕ) → j < k → Admits (known_at new j) (value_of ns d j))
      → ((j : ℕ) → j < k → IsClosed (known_at new j)) → (o : Option Known)
      → ReductionGives ex k (forward_node new (node_at ns k)) o → MatchOption o ⊥ (λ r. Admits r (value_of ns d k))
  newer-holds k l g older closed o w =
      let below = operands-below ns k p l in let vs = values_of ns d in
      let f = follows new d vs k (node_at ns k) i below closed older in
      reduction-holds o ex k (value_of ns d k) (forward_node new (node_at ns k)) (value-small ns d k p i) f.1
      (not-excluded k g) (rw (value-node ns d k p l) f.0) w

  taken-holds : (m : ℕ) → m ≤ length ns → ((k : ℕ) → length old ≤ k → k < m
      → IsReduction ex k (forward_node new (node_at ns k)) (known_at new k)) → (k : ℕ) → k < m
      → Admits (known_at new k) (value_of ns d k)
  taken-holds m lm ruled = by-older (λ k. Admits (known_at new k) (value_of ns d k)) m (λ k lk older.
      elim (cases_lt k (length old)) [
        | inl b ↦ rw (taken-older old new k kept b) at (a k b).admitted
        | inr g ↦ newer-holds k (omega arith) g older (older-closed k (λ j c b. ruled j c (omega arith)))
            (Some (known_at new k)) (ruled k g lk)
      ])

-- the inputs that agreed agree once newer nodes are taken in
pub taking-sound : (old : List Known) (ex : List ℕ) (ns : List Node) (d : Input) → IsPool ns → IsInput d
    → ((j : ℕ) → j < length old → IsClosed (known_at old j)) → AgreesWith old ex ns d → AreWordsKnown old ex
    → (r : Option (List Known)) → TakingInGives old ex ns r → MatchOption r ⊥ (λ new. AgreesWith new ex ns d)
taking-sound old ex ns d p i closed a words (Some new) w =
    let count = w.count in
    λ k l. record {
      admitted = taken-holds old new ex ns d p i closed a words w.kept (length ns) (omega arith) w.each k (omega arith);
      kept = elim (cases_lt k (length old)) [
        | inl b ↦ (a k b).kept
        | inr g ↦ kept-node old ex ns d (node_at ns k) k p (omega arith) refl words a
      ];
    }
taking-sound old ex ns d p i closed a words None w =
    let older = taken-holds old w.new ex ns d p i closed a words w.kept w.place (omega (arith, w.within)) w.before in
    newer-holds old w.new ex ns d p i closed a words w.kept w.place w.within w.newer older
    (older-closed old w.new ex ns d p i closed a words w.kept w.place w.before) None w.none

-- nothing more follows for a newer node
pub taken-rest : (old new : List Known) (ex : List ℕ) (ns : List Node) → AreTakenIn old new ex ns → (i : ℕ)
    → length old ≤ i → i < length ns → IsAtRest new ex ns i
taken-rest old new ex ns h i g l = let r = h.each i g l in record { closed = r.is; still = r.narrower }
