-- What the rules give is one thing.
use Rattle.sf_dom.proofs.Common.{◌≡◌, ℕ, zero, suc, List, [], length, set, arith, refl, sym, ap, ◌∙◌, ext_get_or, Option, Some, None, IsPool, node_at, Cond, Node, Known, Pair, Has, known_of, FactsView, known_at, numbers_at, gained, WritingGives, GoingBackGivesIn, GoingBackGives, AreExcludedBy, assumed_of, MetGives, ConditionGives, MoreGives, LearnsBy, CantLearn, StartsBy, GrowsBy, CantGrow, TakesInBy, CantTakeInBy, PassGives, AreTakenIn, TakingInFails, variables_after, then-same, then-one, met, IsClosedAt, ReductionGives, common_steps}
use Rattle.sf_dom.proofs.AscendingLemmas.{same-set}
use Rattle.sf_dom.proofs.Passes.{forward-same, operands-below, one-pass, pass-none}
use Rattle.sf_dom.proofs.propagation.Propagations.{same-taken}
use Rattle.sf_dom.proofs.RuleLaws.{one-reduction}

-- there is one reduction, or none
pub reduction-one : (ex : List ℕ) (i : ℕ) (old : Known) (o p : Option Known) → ReductionGives ex i old o
    → ReductionGives ex i old p → o ≡ p
reduction-one ex i old None None h k = refl
reduction-one ex i old None (Some b) h k = absurd (h b k.is k.narrower)
reduction-one ex i old (Some a) None h k = absurd (k a h.is h.narrower)
reduction-one ex i old (Some a) (Some b) h k = ap Some (one-reduction (IsClosedAt ex i) old a b h k)

pass-one : (old : List Known) (ex : List ℕ) (ns : List Node) → IsPool ns → (r s : Option (List Known))
    → PassGives old ex ns r → PassGives old ex ns s → r ≡ s
pass-one old ex ns p None None h k = refl
pass-one old ex ns p None (Some b) h k = absurd (pass-none old b ex ns p h k)
pass-one old ex ns p (Some a) None h k = absurd (pass-none old a ex ns p k h)
pass-one old ex ns p (Some a) (Some b) h k = ap Some (one-pass old a b ex ns p h k)

-- what is written is one thing
writing-one : (ks : List Known) (ex : List ℕ) (i : ℕ) (known : Known) (r s : Option (List Known))
    → WritingGives ks ex i known r → WritingGives ks ex i known s → r ≡ s
writing-one ks ex i known =
    then-one (ReductionGives ex i known) (λ left r. r ≡ Some (set ks i left)) (reduction-one ex i known)
    (λ left g r s e f. e ∙ sym f)

back-one : (n : ℕ) (ks : List Known) (ex : List ℕ) (ns : List Node) (at : ℕ) (r s : Option (List Known))
    → GoingBackGivesIn n ks ex ns at r → (m : ℕ) → GoingBackGivesIn m ks ex ns at s → r ≡ s
back-one zero ks ex ns at r s w zero v = w.1 ∙ sym v.1
back-one zero ks ex ns at r s w (suc m) v = absurd (w.0 v.0 v.1 v.2)
back-one (suc n) ks ex ns at r s w zero v = absurd (v.0 w.0 w.1 w.2)
back-one (suc n) ks ex ns at r s w (suc m) v =
    let clash : Some v.0 ≡ Some w.0 = sym v.1 ∙ w.1 in
    let same : v.0 ≡ w.0 = cc in let o = w.0 in
    let known : Known = gained o.0 o.2 (known_at ks at) (known_at ks o.1) in
    then-same (WritingGives ks ex o.1 known) (λ next t. GoingBackGivesIn n next ex ns o.1 t)
    (λ next t. GoingBackGivesIn m next ex ns o.1 t) (writing-one ks ex o.1 known)
    (λ next f x y g k. back-one n next ex ns o.1 x y g m k) r s w.3 (rw same at v.3)

-- what a condition leaves is one thing
condition-one : (ks : List Known) (ex : List ℕ) (ns : List Node) (cond : Cond) → IsPool ns
    → (r s : Option (List Known)) → ConditionGives ks ex ns cond r → ConditionGives ks ex ns cond s → r ≡ s
condition-one ks ex ns cond p =
    let told : Pair = assumed_of ks cond in
    then-one (MetGives ks ex cond.node.0 told.node) _
    (writing-one ks ex cond.node.0 (met (known_at ks cond.node.0) told.node)) (λ mid g.
    then-one (MetGives mid ex cond.other.0 told.other) _
    (writing-one mid ex cond.other.0 (met (known_at mid cond.other.0) told.other)) (λ both b.
    then-one (GoingBackGives both ex ns cond.node.0) _
    (λ o q x y. back-one x.0 both ex ns cond.node.0 o q x.1 y.0 y.1) (λ one f.
    then-one (GoingBackGives one ex ns cond.other.0) (λ two s. PassGives two ex ns s)
    (λ o q x y. back-one x.0 one ex ns cond.other.0 o q x.1 y.0 y.1) (λ two k. pass-one two ex ns p))))

-- and so is what more of a node leaves
more-one : (ks : List Known) (ex : List ℕ) (ns : List Node) (i : ℕ) (more : Known) → IsPool ns
    → (r s : Option (List Known)) → MoreGives ks ex ns i more r → MoreGives ks ex ns i more s → r ≡ s
more-one ks ex ns i more p =
    let known : Known = met (known_at ks i) more in
    then-one (WritingGives ks ex i known) (λ next s. PassGives next ex ns s) (writing-one ks ex i known)
    (λ next f. pass-one next ex ns p)

-- newer nodes are taken in in one way
taken-one : (old a b : List Known) (ex : List ℕ) (ns : List Node) → IsPool ns → AreTakenIn old a ex ns
    → AreTakenIn old b ex ns → a ≡ b
taken-one old a b ex ns p h k =
    let same = same-taken old a b ex ns (length ns) p (omega arith) h.kept k.kept h.each k.each in
    let ca = h.count in let cb = k.count in
    ext_get_or (known_of 0 0 0 0) a b (ca ∙ sym cb) (λ i l. same i (omega arith))

-- where a newer node is left nothing, they aren't taken in
taken-none : (old new : List Known) (ex : List ℕ) (ns : List Node) → IsPool ns → AreTakenIn old new ex ns
    → ¬ TakingInFails old ex ns
taken-none old new ex ns p h k =
    let i = k.place in let l = k.within in let g = k.newer in
    let same = same-taken old new k.new ex ns i p (omega arith) h.kept k.kept
    (λ j m b. h.each j m (omega arith)) k.before in
    let older = forward-same new k.new i (node_at ns i) (operands-below ns i p l) same in
    let r = rw older at (h.each i g l) in
    k.none (known_at new i) r.is r.narrower

-- ---- facts

-- the same numbers are excluded for each word in one way
same-sets : (a b : List ℕ) → length a ≡ length b → ((w m : ℕ) → Has (numbers_at a w) m → Has (numbers_at b w) m)
    → ((w m : ℕ) → Has (numbers_at b w) m → Has (numbers_at a w) m) → a ≡ b
same-sets a b e to from = ext_get_or 0 a b e (λ w l. same-set (numbers_at a w) (numbers_at b w) (to w) (from w))

-- a condition excludes numbers in one way
pub exclusions-one : (ks : List Known) (ex a b : List ℕ) (ns : List Node) (cond : Cond)
    → AreExcludedBy ks ex a ns cond → AreExcludedBy ks ex b ns cond → a ≡ b
exclusions-one ks ex a b ns cond h k = grind (arith, common_steps, same-sets)

facts-same : (f g : FactsView) → f.known ≡ g.known → f.variables ≡ g.variables → f.excluded ≡ g.excluded → f ≡ g
facts-same f g k v e = grind (arith, common_steps)

-- what both give is one
pub some-same : {A : Type 0} {x y : A} → Some x ≡ Some y → x ≡ y
some-same e = cc

none-some : (x : List Known) → None ≡ Some x → ⊥
none-some x e = let clash : None ≡ Some x = e in absurd cc

-- what facts learn is one thing
pub learns-one : (f g h : FactsView) (ns : List Node) (cond : Cond) → IsPool ns → LearnsBy f g ns cond
    → LearnsBy f h ns cond → g ≡ h
learns-one f g h ns cond p a b =
    let ex = exclusions-one f.known f.excluded g.excluded h.excluded ns cond a.excluded b.excluded in
    facts-same g h (some-same
    (condition-one f.known h.excluded ns cond p (Some g.known) (Some h.known) (rw ex at a.known) b.known))
    (a.variables ∙ sym b.variables) ex

-- what they can't learn they don't
pub learns-none : (f g : FactsView) (ns : List Node) (cond : Cond) → IsPool ns → LearnsBy f g ns cond
    → ¬ CantLearn f ns cond
learns-none f g ns cond p a b =
    let ex = exclusions-one f.known f.excluded g.excluded b.sets ns cond a.excluded b.excluded in
    none-some g.known (condition-one f.known b.sets ns cond p None (Some g.known) b.none (rw ex at a.known))

-- what facts take in of the newer nodes of a pool is one thing
pub grows-one : (f g h : FactsView) (ns : List Node) → IsPool ns → GrowsBy f g ns → GrowsBy f h ns → g ≡ h
grows-one f g h ns p a b =
    let known = taken-one f.known g.known h.known f.excluded ns p a.known b.known in
    facts-same g h known (a.variables ∙ ap (λ ks. variables_after f.variables f.known ks ns) known ∙ sym b.variables)
    (a.excluded ∙ sym b.excluded)

pub grows-none : (f g : FactsView) (ns : List Node) → IsPool ns → GrowsBy f g ns → ¬ CantGrow f ns
grows-none f g ns p a b = taken-none f.known g.known f.excluded ns p a.known b

-- what facts take in of a word is one thing
pub confines-one : (f g h : FactsView) (ns : List Node) (w : ℕ) (more : Known) → IsPool ns → TakesInBy f g ns w more
    → TakesInBy f h ns w more → g ≡ h
confines-one f g h ns w more p a b =
    facts-same g h (some-same (more-one f.known f.excluded ns w more p (Some g.known) (Some h.known) a.known b.known))
    (a.variables ∙ sym b.variables) (a.excluded ∙ sym b.excluded)

pub confines-none : (f g : FactsView) (ns : List Node) (w : ℕ) (more : Known) → IsPool ns → TakesInBy f g ns w more
    → ¬ CantTakeInBy f ns w more
confines-none f g ns w more p a b =
    none-some g.known (more-one f.known f.excluded ns w more p None (Some g.known) b a.known)

-- what is known at first is one thing
pub starts-one : (f g : FactsView) (ns : List Node) → IsPool ns → StartsBy f ns → StartsBy g ns → f ≡ g
starts-one f g ns p a b =
    let ex = ext_get_or 0 f.excluded g.excluded (a.words ∙ sym b.words) (λ w l. a.excluded w ∙ sym (b.excluded w)) in
    let known = taken-one [] f.known g.known g.excluded ns p (rw ex at a.known) b.known in
    facts-same f g known (a.variables ∙ ap (λ ks. variables_after [] [] ks ns) known ∙ sym b.variables) ex
