-- Nodes that a forward pass need not go through, and newer nodes that are taken in.
use Rattle.sf_dom.proofs.Common.{◌≡◌, ◌≢◌, ℕ, Bool, true, false, ◌-◌, ◌<◌, ◌≤◌, ◌+◌, List, [], ◌∷◌, ◌++◌, length, set, take, zero, suc, arith, refl, sym, ap, ◌∙◌, ◌⊎◌, inl, inr, cases_lt, cases_eq, get_or-set_same, get_or-set_other, get_or_append_left, get_or_push, length_push, get_or-take, length-take, and_parts, slice_index, ◌&&◌, if◌then◌else◌, IsPool, OperandsBelow, node_at, Node, Word, Bin, Neg, Known, IsConsistent, is_decided, known_of, NodesView, IsLaidOut, AreConsistentOperands, AreClosedWords, forward_node, IsClosedAt, IsReduction, IsAtRest, AreClosed, AreFixed, AreTakenIn, IsStill, are_all_decided, variables_to, variables_after, IsFixedAt, IsVariableAt, known_at, closed-consistent, common_steps}
use Rattle.sf_dom.proofs.Passes.{operands-below, forward-same, fixed-rest, word-rest, fixed-same, decided-as}
use Rattle.sf_dom.proofs.Reductions.{IsNarrower-refl}
use Rattle.sf_dom.proofs.RuleLaws.{one-reduction}
use Rattle.sf_dom.proofs.Then.{by-older}

pub word-below : (k : ℕ) (n : Node) → OperandsBelow k n → (i : ℕ) → n ≡ Word i → i < 16
word-below k n o i e = rw e at o

pub OperandsBelow-more : (k m : ℕ) (n : Node) → k ≤ m → OperandsBelow k n → OperandsBelow m n
OperandsBelow-more k m (Bin op a b) l o = let x = o.0 in let y = o.1 in (omega arith, omega arith)
OperandsBelow-more k m (Neg a) l o = omega arith
OperandsBelow-more k m n l o = o

pub consistent-operands : (ks : List Known) (k : ℕ) (n : Node) → OperandsBelow k n
    → ((j : ℕ) → j < k → IsConsistent (known_at ks j)) → AreConsistentOperands ks n
consistent-operands ks k (Bin op a b) o h = (h a.0 o.0, h b.0 o.1)
consistent-operands ks k (Neg a) o h = h a.0 o
consistent-operands ks k n o h = tt

-- a node that has one number from the start is at rest
pub unlisted-rest : (n : NodesView) (ex : List ℕ) (ns : List Node) (k : ℕ) → AreClosed n.known ns → IsLaidOut n
    → AreFixed n.variables n.known ns → k < length n.known
    → ((j : ℕ) → j < length n.variables → slice_index n.variables j ≢ k) → IsAtRest n.known ex ns k
unlisted-rest n ex ns k closed laid fixed l none = grind (arith, common_steps, closed-consistent, fixed-rest)

-- a variable stands before all later ones
pub variable-before : (n : NodesView) (r j k : ℕ) → IsLaidOut n → r ≤ j → j < length n.variables
    → k < slice_index n.variables r → k < slice_index n.variables j
variable-before n r j k laid b l h = search (arith, cases_eq)

-- the first variables are the words
words-first : (n : NodesView) (m j : ℕ) → IsLaidOut n → 16 ≤ length n.known → m ≤ 16 → j < m
    → j < length n.variables → slice_index n.variables j ≤ j
words-first n zero j laid l b lt lj = absurd (omega arith)
words-first n (suc m) j laid l b lt lj = elim (cases_lt j m) [
  | inl s ↦ words-first n m j laid l (omega arith) s lj
  | inr g ↦ elim (laid.rest j (omega arith)) [
    | inl o ↦ elim (cases_lt o.0 j) [
      | inl s ↦ absurd (omega (arith, words-first n m o.0 laid l (omega arith) (omega arith) o.1, o.2))
      | inr q ↦ elim (cases_eq o.0 j) [
        | inl same ↦ omega (arith, rw same at o.2)
        | inr ne ↦ omega (arith, laid.rising j o.0 (omega arith) o.1, o.2)
      ]
    ]
    | inr o ↦ absurd (omega (arith, o.0))
  ]
]

-- where nothing more follows for the words, what stands before each variable past them is at rest
pub words-rest : (n : NodesView) (ex : List ℕ) (ns : List Node) → IsPool ns → AreClosed n.known ns → IsLaidOut n
    → AreFixed n.variables n.known ns → AreClosedWords n.known ex → (k : ℕ) → k < length n.known
    → ((j : ℕ) → 16 ≤ j → j < length n.variables → k < slice_index n.variables j) → IsAtRest n.known ex ns k
words-rest n ex ns p closed laid fixed words k l before =
    grind (arith, common_steps, cases_lt, word-rest, unlisted-rest, words-first)

-- where nothing more follows for a node that is written, nothing more follows for a word for which nothing did
pub closed-set : (ks : List Known) (ex : List ℕ) (i : ℕ) (next : Known) → i < length ks → IsClosedAt ex i next → (w : ℕ)
    → IsClosedAt ex w (known_at ks w) → IsClosedAt ex w (known_at (set ks i next) w)
closed-set ks ex i next l closed w h = elim (cases_eq w i) [
  | inl e ↦ rw (e, get_or-set_same ks i next (known_of 0 0 0 0) l) closed
  | inr ne ↦ rw (get_or-set_other ks i w next (known_of 0 0 0 0) ne) h
]

-- a place stays among those of the variables
more-variables : (places : List ℕ) (i k : ℕ) → IsVariableAt places k → IsVariableAt (places ++ i ∷ []) k
more-variables places i k v = grind (arith, common_steps, get_or_append_left, length_push)

-- a node that is added is in the list of the variables, or it and its operands are decided
pub listed-push : (vs places more : List ℕ) (ks : List Known) (ns : List Node) (from i : ℕ) (settled : Bool)
    (next : Known) → IsPool ns → length ks ≡ i → i < length ns → from ≤ i
    → settled ≡ (are_all_decided ks (node_at ns i) && is_decided next) → places ≡ variables_to vs ks ns from (i - from)
    → more ≡ (if settled then places else places ++ length ks ∷ [])
    → more ≡ variables_to vs (ks ++ next ∷ []) ns from (i + 1 - from)
listed-push vs places more ks ns from i settled next p len l le told was made =
    let one : suc (i - from) ≡ i + 1 - from = omega arith in
    let at : from + (i - from) ≡ i = omega arith in
    let now : List ℕ = variables_to vs (ks ++ next ∷ []) ns from (i - from) in
    made ∙ ap (λ xs. if settled then xs else xs ++ length ks ∷ []) (was ∙ sym (older (i - from) (omega arith)))
    ∙ ap (λ m. if settled then now else now ++ m ∷ []) len ∙ sym (last (i - from) at)
    ∙ ap (λ m. variables_to vs (ks ++ next ∷ []) ns from m) one
  where
    none : Known
    none = known_of 0 0 0 0

    same : (k : ℕ) → k < i → known_at (ks ++ next ∷ []) k ≡ known_at ks k
    same k b = get_or_append_left ks (next ∷ []) none k (omega (arith, len))

    operands : (k : ℕ) → k ≤ i → are_all_decided (ks ++ next ∷ []) (node_at ns k) ≡ are_all_decided ks (node_at ns k)
    operands k b = decided-as ks (ks ++ next ∷ []) k (node_at ns k) (operands-below ns k p (omega (arith, l, b)))
        (λ j c. same j (omega (arith, b, c)))

    older : (n : ℕ) → from + n ≤ i → variables_to vs (ks ++ next ∷ []) ns from n ≡ variables_to vs ks ns from n
    older zero b = refl
    older (suc n) b = rw (operands (from + n) (omega arith), same (from + n) (omega arith), older n (omega arith)) refl

    last : (n : ℕ) → from + n ≡ i → variables_to vs (ks ++ next ∷ []) ns from (suc n)
        ≡ (if settled then variables_to vs (ks ++ next ∷ []) ns from n
        else variables_to vs (ks ++ next ∷ []) ns from n ++ i ∷ [])
    last n e = rw (e, operands i (omega arith), get_or_push ks next none i len, ← told) refl

-- what is left of a node that is added is what follows from its operands, reduced, and so it is for those before it
pub ruled-push : (ks : List Known) (ex : List ℕ) (ns : List Node) (from i : ℕ) (r next : Known) → IsPool ns
    → length ks ≡ i → i < length ns
    → ((k : ℕ) → from ≤ k → k < i → IsReduction ex k (forward_node ks (node_at ns k)) (known_at ks k))
    → r ≡ forward_node ks (node_at ns i) → IsReduction ex i r next → (k : ℕ) → from ≤ k → k < i + 1
    → IsReduction ex k (forward_node (ks ++ next ∷ []) (node_at ns k)) (known_at (ks ++ next ∷ []) k)
ruled-push ks ex ns from i r next p len l older is reduction k fk lk =
    let none : Known = known_of 0 0 0 0 in
    let same : (j : ℕ) → j < i → known_at (ks ++ next ∷ []) j ≡ known_at ks j
    = λ j b. get_or_append_left ks (next ∷ []) none j (omega arith) in
    let lower = operands-below ns k p (omega arith) in
    let follows = forward-same (ks ++ next ∷ []) ks k (node_at ns k) lower (λ j b. same j (omega arith)) in
    elim (cases_lt k i) [
      | inl b ↦ rw (follows, same k b) (older k fk b)
      | inr g ↦
          let e : k ≡ i = omega arith in
          rw (follows, e, get_or_push ks next none i len, ← is) reduction
    ]

-- an older node stays as it was
pub taken-older : (old xs : List Known) (k : ℕ) → take (length old) xs ≡ old → k < length old
    → known_at old k ≡ known_at xs k
taken-older old xs k t l = ap (λ ys. known_at ys k) (sym t) ∙ get_or-take (length old) xs k (known_of 0 0 0 0) l

pub taken-length : (old new : List Known) → take (length old) new ≡ old → length old ≤ length new
taken-length old new kept = omega (arith, ap length kept, length-take (length old) new)

-- each node is a variable, or no forward pass makes more known of it, where so many nodes from a place on are listed
listed-fixed : (places : List ℕ) (ks : List Known) (ns : List Node) (from n : ℕ)
    → ((k : ℕ) → k < from → IsVariableAt places k ⊎ IsFixedAt ks ns k)
    → ((k : ℕ) → from ≤ k → k < from + n → IsStill ks ns k) → (k : ℕ) → k < from + n
    → IsVariableAt (variables_to places ks ns from n) k ⊎ IsFixedAt ks ns k
listed-fixed places ks ns from zero older still k l = older k (omega arith)
listed-fixed places ks ns from (suc n) older still k l =
    on (are_all_decided ks (node_at ns (from + n)) && is_decided (known_at ks (from + n))) refl (cases_lt k (from + n))
    (λ b. listed-fixed places ks ns from n older (λ j a c. still j a (omega arith)) k b)
  where
    xs : List ℕ
    xs = variables_to places ks ns from n

    last : from + n ≤ k → k ≡ from + n
    last g = omega (arith, g, l)

    on : (b : Bool) → (are_all_decided ks (node_at ns (from + n)) && is_decided (known_at ks (from + n))) ≡ b
        → (k < from + n) ⊎ (from + n ≤ k) → (k < from + n → IsVariableAt xs k ⊎ IsFixedAt ks ns k)
        → IsVariableAt (if b then xs else xs ++ (from + n) ∷ []) k ⊎ IsFixedAt ks ns k
    on true e (inl b) before = before b
    on true e (inr g) before = inr (rw (last g) (record {
      operands = (and_parts (are_all_decided ks (node_at ns (from + n))) (is_decided (known_at ks (from + n))) e).0;
      still = still (from + n) (omega arith) (omega arith);
    }))
    on false e (inl b) before = elim (before b) [ inl v ↦ inl (more-variables xs (from + n) k v) | inr f ↦ inr f ]
    on false e (inr g) before = inl (rw (last g) (
      length xs,
      omega (arith, length_push xs (from + n)),
      get_or_push xs (from + n) 0 (length xs) refl,
    ))

-- and so it is where newer nodes are taken in
pub taken-fixed : (places : List ℕ) (old new : List Known) (ex : List ℕ) (ns : List Node) → IsPool ns
    → AreTakenIn old new ex ns → ((k : ℕ) → k < length old → IsVariableAt places k ⊎ IsFixedAt old ns k)
    → AreFixed (variables_after places old new ns) new ns
taken-fixed places old new ex ns p g older k l =
    let count = g.count in let longer = taken-length old new g.kept in
    listed-fixed places new ns (length old) (length ns - length old) (λ j b. elim (older j b) [
      | inl v ↦ inl v
      | inr f ↦ inr (fixed-same old new ns j p (omega arith) (λ i c d. sym (taken-older old new i g.kept (omega arith)))
          (rw (taken-older old new j g.kept b) (IsNarrower-refl (known_at new j))) f)
    ]) (λ j a c. (g.each j a (omega arith)).narrower) k (omega arith)

-- what is known is consistent where newer nodes are taken in
pub taken-consistent : (old ks : List Known) (ex : List ℕ) (ns : List Node) (i : ℕ) → take (length old) ks ≡ old
    → ((k : ℕ) → k < length old → IsConsistent (known_at old k))
    → ((k : ℕ) → length old ≤ k → k < i → IsReduction ex k (forward_node ks (node_at ns k)) (known_at ks k))
    → (k : ℕ) → k < i → IsConsistent (known_at ks k)
taken-consistent old ks ex ns i kept consistent ruled k l = elim (cases_lt k (length old)) [
  | inl b ↦ rw (taken-older old ks k kept b) at (consistent k b)
  | inr g ↦ closed-consistent (known_at ks k) (ruled k g l).is.known
]

-- newer nodes are taken in in one way at most
pub same-taken : (old a b : List Known) (ex : List ℕ) (ns : List Node) (i : ℕ) → IsPool ns → i ≤ length ns
    → take (length old) a ≡ old → take (length old) b ≡ old
    → ((k : ℕ) → length old ≤ k → k < i → IsReduction ex k (forward_node a (node_at ns k)) (known_at a k))
    → ((k : ℕ) → length old ≤ k → k < i → IsReduction ex k (forward_node b (node_at ns k)) (known_at b k))
    → (k : ℕ) → k < i → known_at a k ≡ known_at b k
same-taken old a b ex ns i p l ta tb ha hb = by-older (λ k. known_at a k ≡ known_at b k) i (λ k lk before.
    elim (cases_lt k (length old)) [
      | inl e ↦ sym (taken-older old a k ta e) ∙ taken-older old b k tb e
      | inr g ↦
          let older = forward-same a b k (node_at ns k) (operands-below ns k p (omega arith)) before in
          one-reduction (IsClosedAt ex k) (forward_node b (node_at ns k)) (known_at a k) (known_at b k)
          (rw older at (ha k g lk)) (hb k g lk)
    ])
