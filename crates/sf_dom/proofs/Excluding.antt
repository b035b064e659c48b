-- Numbers that a condition excludes for words.
use Rattle.sf_dom.proofs.Common.{◌≡◌, ℕ, ◌<◌, ◌↔◌, List, length, set, false, arith, ◌⊎◌, cases_eq, get_or-set_same, get_or-set_other, length-set, Input, Equal, IsPool, IsCondBelow, node_at, value_of, value-node, met-passes, Cond, Node, Word, Known, Has, Admits, IsDecided, known_at, numbers_at, AgreesWith, AreExcludedBy, AddsNumber, AreExcluded, Meets, common_steps}
use Rattle.sf_dom.proofs.TestLaws.{gives-differs}

-- one more number in the set of a word
pub added-at : (ex : List ℕ) (w xs number : ℕ) → w < length ex
    → ((m : ℕ) → Has xs m ↔ (Has (numbers_at ex w) m ⊎ (m ≡ number))) → AddsNumber ex (set ex w xs) w number
added-at ex w xs number l h = grind (arith, common_steps, get_or-set_same, get_or-set_other, length-set)

-- the number of a decided node is excluded for a word
pub excluded-word : (ex ex' : List ℕ) (i : ℕ) (n : Node) (other : Known) → n ≡ Word i → IsDecided other
    → AddsNumber ex ex' i other.low → AreExcluded ex ex' n other
excluded-word ex ex' i n other e d h = grind (arith, common_steps, cases_eq)

-- the numbers of both nodes are excluded, one after the other
pub both-excluded : (ks : List Known) (ex mid ex' : List ℕ) (ns : List Node) (cond : Cond)
    → AreExcluded ex mid (node_at ns cond.node.0) (known_at ks cond.other.0)
    → AreExcluded mid ex' (node_at ns cond.other.0) (known_at ks cond.node.0)
    → cond.test ≡ Equal → cond.sense ≡ false → AreExcludedBy ks ex ex' ns cond
both-excluded ks ex mid ex' ns cond h k et es = grind (arith, common_steps)

-- the value of a word
at-word : (ns : List Node) (d : Input) (i j w : ℕ) → IsPool ns → i < length ns → j < length ns → node_at ns i ≡ Word w
    → node_at ns j ≡ Word w → value_of ns d i ≡ value_of ns d j
at-word ns d i j w p l k e f = grind (arith, common_steps, value-node)

decided-value : (k : Known) (v : ℕ) → Admits k v → IsDecided k → v ≡ k.low
decided-value k v h d = let a = h.above in let b = h.below in omega arith

-- an input on which a condition is met agrees still where its numbers are excluded
pub excluding-keeps : (ks : List Known) (ex ex' : List ℕ) (ns : List Node) (cond : Cond) (d : Input) → IsPool ns
    → length ks ≡ length ns → IsCondBelow (length ns) cond → AreExcludedBy ks ex ex' ns cond → Meets ns cond d
    → AgreesWith ks ex ns d → AgreesWith ks ex' ns d
excluding-keeps ks ex ex' ns cond d p len below h m a i li =
    grind (arith, common_steps, met-passes, gives-differs, at-word, decided-value)
