-- Stores stay right as they grow.
use Rattle.sf_diagram.proofs.Common.{common_steps, ◌≡◌, ◌≢◌, ◌⊎◌, ℕ, ◌<◌, ◌≤◌, Option, List, [], ◌∷◌, ◌++◌, length, get_or, refl, sym, ap, ◌∙◌, inl, inr, arith, cases_lt, get_or_append_left, get_or_push, length_push, All-push, All-from_get_or, Tree, Leaf, IsOrderedTree, IsReducedTree, tree_at, AreCanonical, IsLawfulStore, KeepsTrees, stored_node, OperandsBelow, tree_of, trees_after, trees_of, IsStore, IsSound, Node, Number, Choice, Task}
use Rattle.sf_diagram.proofs.task.TaskLemmas.{remembered-keeps}

trees_after-append : (older : List Tree) (ms ns : List Node)
    → trees_after older (ms ++ ns) ≡ trees_after (trees_after older ms) ns
trees_after-append older [] ns = refl
trees_after-append older (m ∷ ms) ns = trees_after-append (older ++ tree_of older m ∷ []) ms ns

-- the trees once a node is pushed
pub trees_of-push : (ns : List Node) (n : Node) → trees_of (ns ++ n ∷ []) ≡ trees_of ns ++ tree_of (trees_of ns) n ∷ []
trees_of-push ns n = trees_after-append [] ns (n ∷ [])

pub keeps_push : (ts : List Tree) (t : Tree) → KeepsTrees ts (ts ++ t ∷ [])
keeps_push ts t = grind (arith, common_steps, get_or_append_left, length_push)

-- a node has the same tree where the trees of its operands are kept
tree_of-keeps : (a b : List Tree) (k : ℕ) (n : Node) → KeepsTrees a b → OperandsBelow k n → k ≤ length a
    → tree_of b n ≡ tree_of a n
tree_of-keeps a b k (Number c) h o l = refl
tree_of-keeps a b k (Choice v p q) h o l = rw (h.same p (omega (arith, o.0)), h.same q (omega (arith, o.1))) refl

-- where no tree stands twice, nodes with one tree are equal
one-node : (ts : List Tree) (a b : Node) → AreCanonical ts → OperandsBelow (length ts) a
    → OperandsBelow (length ts) b → tree_of ts a ≡ tree_of ts b → a ≡ b
one-node ts (Number c) (Number d) h oa ob e = cc
one-node ts (Number c) (Choice v p q) h oa ob e = cc
one-node ts (Choice v p q) (Number c) h oa ob e = cc
one-node ts (Choice v p q) (Choice w r s) h oa ob e = grind (arith, common_steps)

operands-weaker : (k m : ℕ) (n : Node) → OperandsBelow k n → k ≤ m → OperandsBelow m n
operands-weaker k m (Number c) o l = tt
operands-weaker k m (Choice v p q) o l = (omega (arith, o.0), omega (arith, o.1))

-- each place of a list with one more element has an old element or this one
pushed : {A : Type 0} (xs : List A) (x d : A) (i : ℕ) → i < length (xs ++ x ∷ [])
    → ((i < length xs) × (get_or (xs ++ x ∷ []) i d ≡ get_or xs i d))
    ⊎ ((i ≡ length xs) × (get_or (xs ++ x ∷ []) i d ≡ x))
pushed xs x d i l = grind (arith, common_steps, cases_lt, get_or_append_left, get_or_push, length_push)

-- canonical trees, and one more that is none of them
canonical-push : (ts : List Tree) (t : Tree) → AreCanonical ts → IsOrderedTree t → IsReducedTree t
    → ((i : ℕ) → i < length ts → tree_at ts i ≢ t) → AreCanonical (ts ++ t ∷ [])
canonical-push ts t h o r new = grind (arith, common_steps, All-push, All-from_get_or, pushed)

-- where no node is equal to one, no tree is the one of this node
pub tree-absent : (ns : List Node) (n : Node) → IsStore ns → OperandsBelow (length (trees_of ns)) n
    → ((i : ℕ) → i < length ns → stored_node ns i ≢ n) → (i : ℕ) → i < length (trees_of ns)
    → tree_at (trees_of ns) i ≢ tree_of (trees_of ns) n
tree-absent ns n h o new i l e = grind (arith, common_steps, stored_node, trees_of, one-node, operands-weaker)

-- a sound store and one more node that is none of its nodes
pub sound-push : (ns : List Node) (n : Node) (most : ℕ) (cache : List (Option (Task × ℕ))) → IsSound ns most cache
    → OperandsBelow (length (trees_of ns)) n → IsOrderedTree (tree_of (trees_of ns) n)
    → IsReducedTree (tree_of (trees_of ns) n) → ((i : ℕ) → i < length ns → stored_node ns i ≢ n) → length ns < most
    → IsSound (ns ++ n ∷ []) most cache
sound-push ns n most cache h o ordered reduced new room =
    let ts = trees_of ns in
    let t = tree_of ts n in
    let now : trees_of (ns ++ n ∷ []) ≡ ts ++ t ∷ [] = trees_of-push ns n in
    let k : KeepsTrees ts (ts ++ t ∷ []) = keeps_push ts t in
    let count : length ts ≡ length ns = h.store.count in
    record {
      store = record {
        count = ap length now ∙ omega (arith, length_push ts t, length_push ns n);
        older = λ i l. elim (pushed ns n (Number 0) i l) [
          | inl b ↦ rw b.1 (h.store.older i b.0)
          | inr a ↦ rw a.1 (operands-weaker (length ts) i n o (omega (arith, a.0)))
        ];
        trees = λ i l. rw now (elim (pushed ns n (Number 0) i l) [
          | inl b ↦ rw b.1 (k.same i (omega (arith, b.0)) ∙ h.store.trees i b.0
              ∙ sym (tree_of-keeps ts (ts ++ t ∷ []) i (stored_node ns i) k (h.store.older i b.0)
              (omega (arith, b.0))))
          | inr a ↦ rw a.1 (get_or_push ts t (Leaf 0) i (omega (arith, a.0))
              ∙ sym (tree_of-keeps ts (ts ++ t ∷ []) (length ts) n k o (omega arith)))
        ]);
        canonical = rw now (canonical-push ts t h.store.canonical ordered reduced (tree-absent ns n h.store o new));
      };
      few = omega (arith, length_push ns n);
      remembered = rw now (remembered-keeps ts (ts ++ t ∷ []) cache k h.remembered);
    }

-- the nodes make a lawful store
pub lawful-store : (ns : List Node) (most : ℕ) (cache : List (Option (Task × ℕ))) → IsSound ns most cache
    → IsLawfulStore (record { trees = trees_of ns; most = most })
lawful-store ns most cache h = grind (arith, common_steps, stored_node, tree_of, trees_of)
