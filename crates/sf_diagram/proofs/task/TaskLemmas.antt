-- Trees that are made of others, and what is wanted of them.
use Rattle.sf_diagram.proofs.Common.{common_steps, ◌≡◌, ℕ, suc, ◌<◌, ◌≤◌, Option, Bool, true, false, List, length, refl, arith, if◌then◌else◌, All, All-weaker, Tree, Bits, value, IsOrderedFrom, IsJoined, StoreData, tree_at, IsLawfulStore, KeepsTrees, IsParted, AreBelow, wanted, HasValues, AreFrom, AreDivided, IsRemembered, Task, Choose, Merge, value_from}
use Rattle.sf_diagram.proofs.TreeLemmas.{ordered-from}

-- ---- a task in a store that grows

pub below-more : (m n : ℕ) (task : Task) → AreBelow m task → m ≤ n → AreBelow n task
below-more m n (Choose test taken other) l le = (omega (arith, l.0), omega (arith, l.1), omega (arith, l.2))
below-more m n (Merge operation first second) l le = (omega (arith, l.0), omega (arith, l.1))

pub wanted-keeps : (a b : List Tree) (task : Task) → KeepsTrees a b → AreBelow (length a) task
    → wanted b task ≡ wanted a task
wanted-keeps a b (Choose test taken other) k l = rw (k.same test l.0, k.same taken l.1, k.same other l.2) refl
wanted-keeps a b (Merge operation first second) k l = rw (k.same first l.0, k.same second l.1) refl

pub remembered-keeps : (a b : List Tree) (es : List (Option (Task × ℕ))) → KeepsTrees a b → All (IsRemembered a) es
    → All (IsRemembered b) es
remembered-keeps a b es k h = grind (arith, common_steps, All-weaker, below-more, wanted-keeps)

-- a tree of a store is ordered from the first variable on that matters to its values
pub made-ordered : (s : StoreData) (id n : ℕ) (f : Bits → ℕ) → IsLawfulStore s → id < length s.trees
    → HasValues (tree_at s.trees id) f → AreFrom n f → IsOrderedFrom n (tree_at s.trees id)
made-ordered s id n f lawful l is from =
    ordered-from (tree_at s.trees id) n f (lawful.canonical.ordered id l) (lawful.canonical.reduced id l) is.values from

-- ---- by a variable

-- for numbers that a rule makes of the values of three trees
rule-from : (g : ℕ → ℕ → ℕ → ℕ) (n : ℕ) (a b c : Tree) → IsOrderedFrom n a → IsOrderedFrom n b → IsOrderedFrom n c
    → AreFrom n (λ x. g (value a x) (value b x) (value c x))
rule-from g n a b c oa ob oc x y same =
    rw (value_from a n oa x y same, value_from b n ob x y same, value_from c n oc x y same) refl

pub rule-divided : (g : ℕ → ℕ → ℕ → ℕ) (v : ℕ) (a a0 a1 b b0 b1 c c0 c1 : Tree) → IsParted v a a0 a1
    → IsParted v b b0 b1 → IsParted v c c0 c1 → AreDivided v (λ x. g (value a x) (value b x) (value c x))
    (λ x. g (value a0 x) (value b0 x) (value c0 x)) (λ x. g (value a1 x) (value b1 x) (value c1 x))
rule-divided g v a a0 a1 b b0 b1 c c0 c1 pa pb pc = record {
  values = λ x. rw (pa.values x, pb.values x, pc.values x)
      (by (x v) (value a0 x) (value a1 x) (value b0 x) (value b1 x) (value c0 x) (value c1 x));
  from = rule-from g v a b c pa.ordered pb.ordered pc.ordered;
  lower_from = rule-from g (suc v) a0 b0 c0 pa.lower_ordered pb.lower_ordered pc.lower_ordered;
  higher_from = rule-from g (suc v) a1 b1 c1 pa.higher_ordered pb.higher_ordered pc.higher_ordered;
}
  where
    by : (x : Bool) (a0 a1 b0 b1 c0 c1 : ℕ) → g (if x then a1 else a0) (if x then b1 else b0) (if x then c1 else c0)
        ≡ (if x then g a1 b1 c1 else g a0 b0 c0)
    by true a0 a1 b0 b1 c0 c1 = refl
    by false a0 a1 b0 b1 c0 c1 = refl

-- the tree that joins those of the sides has the values of the whole
pub joined-values : (v : ℕ) (f lower higher : Bits → ℕ) (l h t : Tree) → AreDivided v f lower higher
    → HasValues l lower → HasValues h higher → IsJoined v l h t → HasValues t f
joined-values v f lower higher l h t d low high j = grind (arith, common_steps, value)
