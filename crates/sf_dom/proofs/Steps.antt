-- A forward pass, variable after variable.
use Rattle.sf_dom.proofs.Common.{◌≡◌, ◌≢◌, ℕ, ◌+◌, ◌<◌, ◌≤◌, List, length, set, arith, refl, sym, ap, ◌∙◌, inl, inr, cases_lt, cases_eq, get_or-set_same, get_or-set_other, slice_index, IsPool, node_at, Node, Known, IsNarrower, known_of, known_at, met, forward_node, IsReduction, IsPassedAt, AreClosed, AreFixed, NodesView, IsLaidOut, AreClosedWords, IsNarrowed, AreConsistentOperands, closed-consistent, common_steps}
use Rattle.sf_dom.proofs.Lawful.{narrowed-refl, narrowed-trans, narrowed-set}
use Rattle.sf_dom.proofs.Passes.{operands-below, met-left, forward-same, fixed-same, number-stays, passed-same, rest-passed}
use Rattle.sf_dom.proofs.propagation.Propagations.{unlisted-rest, words-rest, variable-before, consistent-operands}
use Rattle.sf_dom.proofs.Reductions.{IsNarrower-trans}

-- a forward pass has gone through the variables before a rank
pub record PassesThrough (old new : NodesView) (ex : List ℕ) (ns : List Node) (rank : ℕ) : Type 0 where
  pub narrowed : IsNarrowed old.known new.known ex ns
  pub variables : new.variables ≡ old.variables
  pub laid_out : IsLaidOut new
  pub same : (i : ℕ) → ((j : ℕ) → j < rank → j < length new.variables → slice_index new.variables j ≢ i)
      → known_at new.known i ≡ known_at old.known i
  pub passed : (k : ℕ) → k < length new.known
      → ((j : ℕ) → rank ≤ j → j < length new.variables → k < slice_index new.variables j)
      → IsPassedAt old.known new.known ex ns k

-- each node is a variable still, or no more can become known of it
pub still-fixed : (places : List ℕ) (old new : List Known) (ex : List ℕ) (ns : List Node) → IsPool ns → AreClosed old ns
    → IsNarrowed old new ex ns → AreFixed places old ns → AreFixed places new ns
still-fixed places old new ex ns p h n fixed i l = elim (fixed i l) [
  | inl v ↦ inl v
  | inr f ↦
      let count = h.count in
      inr (fixed-same old new ns i p l (λ j b. number-stays (known_at old j) (known_at new j)
      (closed-consistent (known_at old j) (h.each j (omega arith)))
      (closed-consistent (known_at new j) (n.closed.each j (omega arith))) (n.narrower j (omega arith)))
      (n.narrower i (omega arith)) f)
]

-- the words need no step
pub through-words : (n : NodesView) (ex : List ℕ) (ns : List Node) → IsPool ns → AreClosed n.known ns
    → IsLaidOut n → AreFixed n.variables n.known ns → AreClosedWords n.known ex → PassesThrough n n ex ns 16
through-words n ex ns p closed laid fixed words = record {
  narrowed = narrowed-refl n.known ex ns closed;
  variables = refl;
  laid_out = laid;
  same = λ i h. refl;
  passed = λ k l before. rest-passed n.known n.known ex ns k refl
      (words-rest n ex ns p closed laid fixed words k l before);
}

-- what the pass meets of the variable at a rank
pub pass-met : (old n : NodesView) (ex : List ℕ) (ns : List Node) (rank i : ℕ) (r both : Known) → IsPool ns
    → PassesThrough old n ex ns rank → rank < length n.variables → slice_index n.variables rank ≡ i → i < length ns
    → (AreConsistentOperands n.known (node_at ns i) → r ≡ forward_node n.known (node_at ns i))
    → both ≡ met (known_at n.known i) r → both ≡ met (known_at old.known i) (forward_node n.known (node_at ns i))
pass-met old n ex ns rank i r both p t l at li rule is =
    let closed = t.narrowed.closed in
    let consistent = consistent-operands n.known i (node_at ns i) (operands-below ns i p li)
    (λ j b. closed-consistent (known_at n.known j) (closed.each j (omega arith))) in
    let was = t.same i (λ j b lj e. absurd (omega (arith, t.laid_out.rising j rank b l, at, e))) in
    is ∙ ap (λ k. met k r) was ∙ ap (met (known_at old.known i)) (rule consistent)

-- what has been passed stays so where a later node is written
passed-older : (old n : NodesView) (ex : List ℕ) (ns : List Node) (rank i : ℕ) (next : Known) → IsPool ns
    → PassesThrough old n ex ns rank → rank < length n.variables → slice_index n.variables rank ≡ i → (k : ℕ) → k < i
    → i < length n.known → IsPassedAt old.known (set n.known i next) ex ns k
passed-older old n ex ns rank i next p t l at k b here =
    passed-same old.known n.known (set n.known i next) ex ns k p (omega arith)
    (λ j c. sym (get_or-set_other n.known i j next (known_of 0 0 0 0) (λ e. absurd (omega arith))))
    (t.passed k (omega arith) (λ j a lj. variable-before n rank j k t.laid_out a lj (omega (arith, at))))

-- the variable at a rank is passed once it is written
passed-here : (old n : NodesView) (ex : List ℕ) (ns : List Node) (i : ℕ) (both next : Known) → IsPool ns
    → i < length n.known → i < length ns → both ≡ met (known_at old.known i) (forward_node n.known (node_at ns i))
    → IsReduction ex i both next → IsPassedAt old.known (set n.known i next) ex ns i
passed-here old n ex ns i both next p here li is rule =
    grind (arith, common_steps, get_or-set_same, get_or-set_other, operands-below, forward-same)

-- a step of the pass: what is left of the variable at a rank is known afterwards
pub through-step : (old n m : NodesView) (ex : List ℕ) (ns : List Node) (rank i : ℕ) (both next : Known) → IsPool ns
    → AreClosed old.known ns → AreFixed old.variables old.known ns → PassesThrough old n ex ns rank
    → rank < length n.variables → slice_index n.variables rank ≡ i
    → both ≡ met (known_at old.known i) (forward_node n.known (node_at ns i)) → IsReduction ex i both next
    → m.known ≡ set n.known i next → m.variables ≡ n.variables → IsLaidOut m → PassesThrough old m ex ns (rank + 1)
through-step old n m ex ns rank i both next p h fixed t l at is reduction written same laid =
    let closed = t.narrowed.closed in let here : i < length n.known = omega (arith, t.laid_out.within rank l, at) in
    let li : i < length ns = omega arith in
    let was : known_at n.known i ≡ known_at old.known i
    = t.same i (λ j b lj e. absurd (omega (arith, t.laid_out.rising j rank b l, at, e))) in
    let rule : Known = forward_node n.known (node_at ns i) in
    let own : Known = known_at old.known i in
    let narrower : IsNarrower (known_at n.known i) next = rw was (IsNarrower-trans own (met own rule) next
    (met-left own rule) (rw is at reduction.narrower)) in
    let all : IsNarrowed old.known m.known ex ns =
    rw written (narrowed-trans old.known n.known (set n.known i next) ex ns h
    t.narrowed (narrowed-set n.known ex ns i next closed li reduction.is narrower)) in
    let kept : AreFixed m.variables m.known ns =
    rw (same ∙ t.variables) (still-fixed old.variables old.known m.known ex ns p h all fixed) in
    let known : (k : ℕ) → ((j : ℕ) → j < rank + 1 → j < length m.variables → slice_index m.variables j ≢ k)
    → known_at m.known k ≡ known_at old.known k
    = rw (written, same) (λ k g. get_or-set_other n.known i k next (known_of 0 0 0 0)
    (λ e. g rank (omega arith) l (at ∙ sym e)) ∙ t.same k (λ j b lj. g j (omega arith) lj)) in
    record {
      narrowed = all;
      variables = same ∙ t.variables;
      laid_out = laid;
      same = known;
      passed = λ k lk before. elim (cases_lt k i) [
        | inl b ↦ rw written (passed-older old n ex ns rank i next p t l at k b here)
        | inr g ↦ elim (cases_eq k i) [
          | inl e ↦ rw (written, e) (passed-here old n ex ns i both next p here li is reduction)
          | inr ne ↦
              let unlisted : (j : ℕ) → j < length m.variables → slice_index m.variables j ≢ k
              = λ j lj e. elim (cases_lt rank j) [
                | inl a ↦ absurd (omega (arith, before j (omega arith) lj, e))
                | inr a ↦
                    let y : slice_index m.variables j ≡ slice_index n.variables j = ap (λ os. slice_index os j) same in
                    elim (cases_eq j rank) [
                      | inl z ↦ absurd (omega (arith, ap (slice_index n.variables) z, y, at, e))
                      | inr z ↦ absurd (omega (arith, t.laid_out.rising j rank (omega arith) l, y, at, e))
                    ]
              ] in
              rest-passed old.known m.known ex ns k (known k (λ j b lj. unlisted j lj))
              (unlisted-rest m ex ns k all.closed laid kept lk unlisted)
        ]
      ];
    }
