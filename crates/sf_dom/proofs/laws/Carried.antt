-- Facts that a piece carries along are those that are built anew from its conditions.
use Rattle.sf_dom.proofs.Common.{◌≡◌, ℕ, zero, suc, ◌<◌, ◌≤◌, List, [], ◌∷◌, ◌++◌, length, take, set, arith, refl, sym, ap, ◌∙◌, cases_eq, ext_get_or, get_or-set_same, get_or-set_other, length-set, get_or-take, length-take-le, get_or_append_left, length-append, Option, Some, constant_operand_of, IsPool, IsCondBelow, Extends, OperandsBelow, node_at, Cond, Node, Bin, Known, Pair, IsNarrower, known_of, FactsView, known_at, gained, WritingGives, GoingBackGivesIn, GoingBackGives, AreExcludedBy, assumed_of, MetGives, SpreadingGives, LearnsBy, StartsBy, GrowsBy, LearnAll, AreBuiltBy, IsPass, PassGives, AreClosed, met, forward_node, IsClosedAt, IsReduction, IsWidest, Then, AreCarried, started, learnt, grown, common_steps}
use Rattle.sf_dom.proofs.ConstantOperands.{is-operand}
use Rattle.sf_dom.proofs.ConditionSteps.{condition-lawful}
use Rattle.sf_dom.proofs.laws.Monotone.{forward-narrower}
use Rattle.sf_dom.proofs.laws.OneResult.{exclusions-one, reduction-one, some-same}
use Rattle.sf_dom.proofs.Passes.{reduction-as, operands-below, met-right, met-below, same-up_to}
use Rattle.sf_dom.proofs.propagation.Propagations.{same-taken}
use Rattle.sf_dom.proofs.Reductions.{IsNarrower-trans}

-- ---- a pool and a longer one

-- the longer pool begins with the nodes of the other
pub record IsLonger (ns longer : List Node) : Type 0 where
  pub count : length ns ≤ length longer
  pub same : (i : ℕ) → i < length ns → node_at longer i ≡ node_at ns i

pub extends-longer : (ns longer : List Node) → Extends ns longer → IsLonger ns longer
extends-longer ns longer e = grind (arith, common_steps, get_or_append_left, length-append)

longer-trans : (a b c : List Node) → IsLonger a b → IsLonger b c → IsLonger a c
longer-trans a b c h k = record { count = omega arith; same = λ i l. k.same i (omega arith) ∙ h.same i l }

-- a node's one constant operand is that of the longer pool
operand-same : (ns longer : List Node) (at : ℕ) (n : Node) → at < length ns → OperandsBelow at n → IsLonger ns longer
    → constant_operand_of longer n ≡ constant_operand_of ns n
operand-same ns longer at (Bin op a b) l o h =
    let la = o.0 in let lb = o.1 in
    rw (h.same a.0 (omega arith), h.same b.0 (omega arith)) refl
operand-same ns longer at n l o h = refl

-- ---- what is known of the nodes of both

-- the same is known of the nodes of the shorter pool
record AreSameBelow (ks js : List Known) (ns longer : List Node) : Type 0 where
  count : length ks ≡ length ns
  more : length js ≡ length longer
  same : (i : ℕ) → i < length ns → known_at ks i ≡ known_at js i

-- and of the others it is what it was
abbrev AreKeptAbove : List Known → List Known → List Node → Type 0
AreKeptAbove js last ns = (i : ℕ) → length ns ≤ i → known_at last i ≡ known_at js i

write-same : (ks js : List Known) (ns longer : List Node) (i : ℕ) (k : Known) → IsLonger ns longer → i < length ns
    → AreSameBelow ks js ns longer → AreSameBelow (set ks i k) (set js i k) ns longer
write-same ks js ns longer i k h l s =
    grind (arith, common_steps, cases_eq, get_or-set_same, get_or-set_other, length-set)

write-above : (js : List Known) (ns : List Node) (i : ℕ) (k : Known) → i < length ns → AreKeptAbove js (set js i k) ns
write-above js ns i k l j g = get_or-set_other js i j k (known_of 0 0 0 0) (λ e. absurd (omega arith))

-- the parts of one step after another that give something
record HasParts {A B : Type 0} (first : Option A → Type 0) (second : A → Option B → Type 0) (r : B) : Type 0 where
  mid : A
  one : first (Some mid)
  two : second mid (Some r)

then-parts : {A B : Type 0} (first : Option A → Type 0) (second : A → Option B → Type 0) (r : B)
    → Then first second (Some r) → HasParts first second r
then-parts {A} {B} first second r h = grind (arith, common_steps)

-- a node is written in the same way, or known bits go back so
record HaveGoneBack (js next last : List Known) (ns longer : List Node) : Type 0 where
  same : AreSameBelow next last ns longer
  above : AreKeptAbove js last ns

-- one step back
step-same : (ks js mid other : List Known) (ex : List ℕ) (ns longer : List Node) (i : ℕ) (known : Known)
    → i < length ns → IsLonger ns longer → AreSameBelow ks js ns longer → WritingGives ks ex i known (Some mid)
    → WritingGives js ex i known (Some other) → HaveGoneBack js mid other ns longer
step-same ks js mid other ex ns longer i known l h s g k =
    grind (arith, common_steps, reduction-one, some-same, write-same, write-above, then-parts)

-- the one constant operand of the node at a place
pub at-same : (ns longer : List Node) (at : ℕ) → IsPool ns → at < length ns → IsLonger ns longer
    → constant_operand_of longer (node_at longer at) ≡ constant_operand_of ns (node_at ns at)
at-same ns longer at p l h =
    ap (λ n. constant_operand_of longer n) (h.same at l)
    ∙ operand-same ns longer at (node_at ns at) l (operands-below ns at p l) h

back-same : (n : ℕ) (ks js : List Known) (ex : List ℕ) (ns longer : List Node) (at : ℕ) (next last : List Known)
    → IsPool ns → at < length ns → IsLonger ns longer → AreSameBelow ks js ns longer
    → GoingBackGivesIn n ks ex ns at (Some next) → (m : ℕ) → GoingBackGivesIn m js ex longer at (Some last)
    → HaveGoneBack js next last ns longer
back-same zero ks js ex ns longer at next last p l h s w zero v =
    rw (some-same w.1, some-same v.1) (record { same = s; above = λ i g. refl })
back-same zero ks js ex ns longer at next last p l h s w (suc m) v =
    absurd (w.0 v.0 (sym (at-same ns longer at p l h) ∙ v.1) v.2)
back-same (suc n) ks js ex ns longer at next last p l h s w zero v =
    absurd (v.0 w.0 (at-same ns longer at p l h ∙ w.1) w.2)
back-same (suc n) ks js ex ns longer at next last p l h s w (suc m) v =
    let o = w.0 in
    let operand : constant_operand_of longer (node_at longer at) ≡ Some o = at-same ns longer at p l h ∙ w.1 in
    let same : v.0 ≡ o = some-same (sym v.1 ∙ operand) in
    let older = (is-operand ns at o p l w.1).older in
    let here : o.1 < length ns = omega arith in
    let known : Known = gained o.0 o.2 (known_at ks at) (known_at ks o.1) in
    let sa : known_at ks at ≡ known_at js at = s.same at l in
    let so : known_at ks o.1 ≡ known_at js o.1 = s.same o.1 here in
    let moved : Then (WritingGives js ex o.1 known) (λ mid t. GoingBackGivesIn m mid ex longer o.1 t) (Some last)
    = rw (sa, so) (rw same at v.3) in
    let g = then-parts (WritingGives ks ex o.1 known) (λ mid t. GoingBackGivesIn n mid ex ns o.1 t) next w.3 in
    let k = then-parts (WritingGives js ex o.1 known) (λ mid t. GoingBackGivesIn m mid ex longer o.1 t) last moved in
    let one = step-same ks js g.mid k.mid ex ns longer o.1 known here h s g.one k.one in
    let more = back-same n g.mid k.mid ex ns longer o.1 next last p here h one.same g.two m k.two in
    record { same = more.same; above = λ i b. more.above i b ∙ one.above i b }

-- a pass leaves the same of the nodes of both
passes-below : (ks js new last : List Known) (ex : List ℕ) (ns longer : List Node) → IsPool ns
    → IsLonger ns longer → AreSameBelow ks js ns longer → IsPass ks new ex ns → IsPass js last ex longer → (i : ℕ)
    → i < length ns → known_at new i ≡ known_at last i
passes-below ks js new last ex ns longer p h s g k =
    same-up_to ks new last ex ns p (length ns) (omega arith) g.each
    (λ i l. rw (← s.same i l, h.same i l) at (k.each i (omega arith)))

-- what follows from its nodes leaves the same of the nodes of both, and the pass goes over the others as they were
record AreLearntAlike (js new last : List Known) (ex : List ℕ) (ns longer : List Node) : Type 0 where
  count : length new ≡ length ns
  same : (i : ℕ) → i < length ns → known_at new i ≡ known_at last i
  above : (i : ℕ) → length ns ≤ i → i < length longer
      → IsReduction ex i (met (known_at js i) (forward_node last (node_at longer i))) (known_at last i)

spreading-same : (ks js new last : List Known) (ex : List ℕ) (ns longer : List Node) (cond : Cond) → IsPool ns
    → IsCondBelow (length ns) cond → IsLonger ns longer → AreSameBelow ks js ns longer
    → SpreadingGives ks ex ns cond (Some new) → SpreadingGives js ex longer cond (Some last)
    → AreLearntAlike js new last ex ns longer
spreading-same ks js new last ex ns longer cond p below h s g k =
    let v : ℕ = cond.node.0 in let w : ℕ = cond.other.0 in
    let ga = then-parts (GoingBackGives ks ex ns v)
    (λ one. Then (GoingBackGives one ex ns w) (λ two s. PassGives two ex ns s)) new g in
    let ka = then-parts (GoingBackGives js ex longer v)
    (λ one. Then (GoingBackGives one ex longer w) (λ two s. PassGives two ex longer s)) last k in
    let one = back-same ga.one.0 ks js ex ns longer v ga.mid ka.mid p below.0 h s ga.one.1 ka.one.0 ka.one.1 in
    let gb = then-parts (GoingBackGives ga.mid ex ns w) (λ two s. PassGives two ex ns s) new ga.two in
    let kb = then-parts (GoingBackGives ka.mid ex longer w) (λ two s. PassGives two ex longer s) last ka.two in
    let two = back-same gb.one.0 ga.mid ka.mid ex ns longer w gb.mid kb.mid p below.1 h one.same gb.one.1 kb.one.0
    kb.one.1 in
    record {
      count = gb.two.count;
      same = passes-below gb.mid kb.mid new last ex ns longer p h two.same gb.two kb.two;
      above = λ i b l. rw (two.above i b ∙ one.above i b) at (kb.two.each i l);
    }

-- ---- facts of a pool, and of a longer one

-- Facts of a longer pool are those of the shorter one, which have taken in the newer nodes.
record AreGrownFrom (f g : FactsView) (ns longer : List Node) : Type 0 where
  below : AreSameBelow f.known g.known ns longer
  excluded : f.excluded ≡ g.excluded
  newer : (i : ℕ) → length ns ≤ i → i < length longer
      → IsReduction g.excluded i (forward_node g.known (node_at longer i)) (known_at g.known i)
  closed : AreClosed g.known longer

-- what was reduced before more was known of its operands, may be met with what follows from them then
narrower-again : (kind : Known → Type 0) (rule more old new : Known) → IsWidest kind rule old → IsNarrower rule more
    → IsWidest kind (met old more) new → IsWidest kind more new
narrower-again kind rule more old new h n k = record {
  is = k.is;
  narrower = IsNarrower-trans more (met old more) new (met-right old more) k.narrower;
  widest = λ s t m. k.widest s t (met-below old more s (h.widest s t (IsNarrower-trans rule more s n m)) m);
}

-- no number is excluded for a node that isn't a word
closed-any : (a b : List ℕ) (i : ℕ) → 16 ≤ i → (k : Known) → IsClosedAt a i k → IsClosedAt b i k
closed-any a b i g k h = record { known = h.known; tight = λ l. absurd (omega arith) }

-- a condition excludes the same numbers
excluded-below : (f g : FactsView) (e : List ℕ) (ns longer : List Node) (cond : Cond) → IsCondBelow (length ns) cond
    → IsLonger ns longer → AreGrownFrom f g ns longer → AreExcludedBy g.known g.excluded e longer cond
    → AreExcludedBy f.known f.excluded e ns cond
excluded-below f g e ns longer cond below h r x = grind (arith, common_steps)

-- both learn a condition
learnt-grown : (f g c e : FactsView) (ns longer : List Node) (cond : Cond) → IsPool ns → IsPool longer
    → IsCondBelow (length ns) cond → IsLonger ns longer → AreGrownFrom f g ns longer → LearnsBy f c ns cond
    → LearnsBy g e longer cond → AreGrownFrom c e ns longer
learnt-grown f g c e ns longer cond p q below h r x y =
    let ex : List ℕ = e.excluded in
    let same = exclusions-one f.known f.excluded c.excluded ex ns cond x.excluded
    (excluded-below f g ex ns longer cond below h r y.excluded) in
    let first = rw same at x.known in
    let v : ℕ = cond.node.0 in let w : ℕ = cond.other.0 in
    let sv : known_at f.known v ≡ known_at g.known v = r.below.same v below.0 in
    let sw : known_at f.known w ≡ known_at g.known w = r.below.same w below.1 in
    let told : Pair = assumed_of f.known cond in let tells : Pair = assumed_of g.known cond in
    let av = then-parts (MetGives f.known ex v told.node)
    (λ mid. Then (MetGives mid ex w told.other) (λ both. SpreadingGives both ex ns cond)) c.known first in
    let bv = then-parts (MetGives g.known ex v tells.node)
    (λ mid. Then (MetGives mid ex w tells.other) (λ both. SpreadingGives both ex longer cond)) e.known y.known in
    let one = step-same f.known g.known av.mid bv.mid ex ns longer v (met (known_at f.known v) told.node) below.0 h
    r.below av.one (rw (sv, sw) bv.one) in
    let sm : known_at av.mid w ≡ known_at bv.mid w = one.same.same w below.1 in
    let aw = then-parts (MetGives av.mid ex w told.other) (λ both. SpreadingGives both ex ns cond) c.known av.two in
    let bw = then-parts (MetGives bv.mid ex w tells.other) (λ both. SpreadingGives both ex longer cond) e.known
    bv.two in
    let two = step-same av.mid bv.mid aw.mid bw.mid ex ns longer w (met (known_at av.mid w) told.other) below.1 h
    one.same aw.one (rw (sm, sv, sw) bw.one) in
    let alike = spreading-same aw.mid bw.mid c.known e.known ex ns longer cond p below h two.same aw.two bw.two in
    let lower : IsCondBelow (length longer) cond = (omega (arith, below.0), omega (arith, below.1)) in
    let narrowed = (condition-lawful g.known ex longer cond q r.closed lower).narrowed (Some e.known) y.known in
    record {
      below = record { count = alike.count; more = narrowed.closed.count; same = alike.same };
      excluded = same;
      newer = λ i b l.
          let kept : known_at bw.mid i ≡ known_at g.known i = two.above i b ∙ one.above i b in
          let rule : Known = forward_node g.known (node_at longer i) in
          let more : Known = forward_node e.known (node_at longer i) in
          narrower-again (IsClosedAt ex i) rule more (known_at g.known i) (known_at e.known i)
          (reduction-as (IsClosedAt g.excluded i) (IsClosedAt ex i) (closed-any g.excluded ex i (omega arith))
          (closed-any ex g.excluded i (omega arith)) rule (Some (known_at g.known i)) (r.newer i b l))
          (forward-narrower g.known e.known i (node_at longer i) (operands-below longer i q l)
          (λ j m. narrowed.closed.each j (omega arith)) (λ j m. narrowed.narrower j (omega arith)))
          (rw kept at (alike.above i b l));
      closed = narrowed.closed;
    }

-- ---- facts that are carried along

all-below : (ks js : List Known) (n : ℕ) → length ks ≡ n → n ≤ length js
    → ((i : ℕ) → i < n → known_at ks i ≡ known_at js i) → take (length ks) js ≡ ks
all-below ks js n e l same =
    let count : length (take (length ks) js) ≡ length ks = length-take-le (length ks) js (omega arith) in
    ext_get_or (known_of 0 0 0 0) (take (length ks) js) ks count
    (λ i b. get_or-take (length ks) js i (known_of 0 0 0 0) (omega arith) ∙ sym (same i (omega arith)))

-- facts of both pools, at first
started-grown : (f g : FactsView) (ns longer : List Node) → IsPool ns → IsLonger ns longer → StartsBy f ns
    → StartsBy g longer → AreGrownFrom f g ns longer
started-grown f g ns longer p h x y =
    let count = h.count in let cf = x.known.count in let cg = y.known.count in
    let none = ext_get_or 0 f.excluded g.excluded (x.words ∙ sym y.words) (λ w l. x.excluded w ∙ sym (y.excluded w)) in
    let first = rw none at x.known in
    record {
      below = record {
        count = cf;
        more = cg;
        same = same-taken [] f.known g.known g.excluded ns (length ns) p (omega arith) first.kept y.known.kept
            (λ k b l. first.each k b l) (λ k b l. rw (h.same k l) at (y.known.each k b (omega arith)));
      };
      excluded = none;
      newer = λ i b l. y.known.each i (omega arith) l;
      closed = record { count = cg; each = λ i l. (y.known.each i (omega arith) l).is.known };
    }

-- facts of the shorter pool take in nodes that the longer one has too
grown-grown : (f g h : FactsView) (ns more longer : List Node) → IsPool more → IsLonger ns more → IsLonger more longer
    → AreGrownFrom f h ns longer → GrowsBy f g more → AreGrownFrom g h more longer
grown-grown f g h ns more longer p l k r x =
    let count = l.count in let last = k.count in let cf = r.below.count in let ch = r.below.more in
    let cg = x.known.count in
    let whole = longer-trans ns more longer l k in
    let first = rw r.excluded at x.known in
    record {
      below = record {
        count = cg;
        more = ch;
        same = same-taken f.known g.known h.known h.excluded more (length more) p (omega arith) first.kept
            (all-below f.known h.known (length ns) cf (omega arith) r.below.same) (λ i b m. first.each i b m)
            (λ i b m. rw (k.same i m) at (r.newer i (omega arith) (omega arith)));
      };
      excluded = x.excluded ∙ r.excluded;
      newer = λ i b m. r.newer i (omega arith) m;
      closed = r.closed;
    }

-- the last condition is learnt last
learn-split : (a c : FactsView) (ns : List Node) (conds : List Cond) (cond : Cond)
    → LearnAll a c ns (conds ++ cond ∷ []) → (b : FactsView) × LearnAll a b ns conds × LearnsBy b c ns cond
learn-split a c ns [] cond h = (a, refl, rw h.2 at h.1)
learn-split a c ns (x ∷ xs) cond h =
    let rest = learn-split h.0 c ns xs cond h.2 in (rest.0, (h.0, h.1, rest.1), rest.2)

carried-pool : (f : FactsView) (ns : List Node) (conds : List Cond) → AreCarried f ns conds → IsPool ns
carried-pool f ns conds (started p x e) = p
carried-pool f ns conds (learnt old before cond h below x e) = carried-pool old ns before h
carried-pool f ns conds (grown old shorter h p e x) = p

carried-grown : (f g : FactsView) (ns longer : List Node) (conds : List Cond) → AreCarried f ns conds → IsPool longer
    → IsLonger ns longer → AreBuiltBy g longer conds → AreGrownFrom f g ns longer
carried-grown f g ns longer conds (started p x e) q h b =
    let same : b.0 ≡ g = rw e at b.2 in
    started-grown f g ns longer p h x (rw same at b.1)
carried-grown f g ns longer conds (learnt old before cond c below x e) q h b =
    let all : LearnAll b.0 g longer (before ++ cond ∷ []) = rw e at b.2 in
    let split = learn-split b.0 g longer before cond all in
    learnt-grown old split.0 f g ns longer cond (carried-pool old ns before c) q below h
    (carried-grown old split.0 ns longer before c q h (b.0, b.1, split.1)) x split.2
carried-grown f g ns longer conds (grown old shorter c p e x) q h b =
    let l = extends-longer shorter ns e in
    grown-grown old f g shorter ns longer p l h
    (carried-grown old g shorter longer conds c q (longer-trans shorter ns longer l h) b) x

pub carried-built : (f g : FactsView) (ns : List Node) (conds : List Cond) → AreCarried f ns conds
    → AreBuiltBy g ns conds → (f.known ≡ g.known) × (f.excluded ≡ g.excluded)
carried-built f g ns conds h b =
    let r = carried-grown f g ns ns conds h (carried-pool f ns conds h)
    (record { count = omega arith; same = λ i l. refl }) b in
    let cf = r.below.count in
    let cg = r.below.more in (
      ext_get_or (known_of 0 0 0 0) f.known g.known (cf ∙ sym cg) (λ i l. r.below.same i (omega arith)),
      r.excluded,
    )
