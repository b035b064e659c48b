-- What facts say of numbers that are left, and what they are once newer nodes are taken in.
use Rattle.sf_dom.proofs.Common.{◌≡◌, ◌≢◌, ℕ, zero, suc, ◌<◌, ◌≤◌, ◌^◌, List, [], length, get_or, take, arith, refl, sym, ap, ◌∙◌, inl, inr, cases_lt, get_or-take, get_or_append_left, slice_index, Option, Some, None, MatchOption, replicate, IsInput, Input, IsPool, node_at, value_of, ArePlainNodes, Extends, value-older, Node, Const, Known, Has, Admits, IsDecided, IsNarrower, FactsView, known_at, numbers_at, AgreesWith, AreFacts, Agrees, Covers, TakesIn, NoneAgrees, narrower-admits, sampled, words-agree, value-word, constant-known, covers-facts, StartsBy, GrowsBy, CantGrow, IsAtRest, AreTakenIn, TakingInGives, AllNarrower, common_steps}
use Rattle.sf_dom.proofs.NewNodes.{taking-sound, taken-rest}
use Rattle.sf_dom.proofs.Passes.{operands-below, forward-same}
use Rattle.sf_dom.proofs.propagation.Propagations.{taken-length, taken-older, taken-fixed, taken-consistent}

-- The number of a node where only one is left: where there is one, where there is none, and how the ends say which.
pub decided-some : (o : Option ℕ) (k : Known) (n : ℕ) → MatchOption o (¬ IsDecided k) (λ m. IsDecided k × (m ≡ k.low))
    → o ≡ Some n → IsDecided k × (n ≡ k.low)
decided-some None k n h e = cc
decided-some (Some m) k n h e = let s : m ≡ n = cc in (h.0, sym s ∙ h.1)

pub decided-none : (o : Option ℕ) (k : Known) → MatchOption o (¬ IsDecided k) (λ m. IsDecided k × (m ≡ k.low))
    → o ≡ None → ¬ IsDecided k
decided-none None k h e = h
decided-none (Some m) k h e = cc

-- a node of words and constants that is not decided has two numbers
pub undecided : (f : FactsView) (ns : List Node) (i n : ℕ) → Covers f ns → ArePlainNodes ns → i < length ns
    → ((known_at f.known i).low ≢ (known_at f.known i).high)
    → ¬ ((d : Input) → IsInput d → AgreesWith f.known f.excluded ns d → value_of ns d i ≡ n)
undecided f ns i n h plain l ne all = elim (cases_lt i 16) [
  | inl b ↦
      (let p = h.pool in
      let facts = covers-facts f ns h in let t = facts.tight i b in
      let s = sampled f i (known_at f.known i).low b facts t.low in
      let u = sampled f i (known_at f.known i).high b facts t.high in
      let one = all s.0 s.1 (words-agree f ns s.0 h plain s.2) in
      let two = all u.0 u.1 (words-agree f ns u.0 h plain u.2) in
      ne (sym s.3 ∙ sym (value-word ns s.0 i p b) ∙ one ∙ sym two ∙ value-word ns u.0 i p b ∙ u.3))
  | inr g ↦ (let count = h.count in let c = plain i g l in
      let k = constant-known f.known f.excluded ns i c.0 (h.rest i l) c.1 in
      ne (k.0 ∙ sym k.1))
]

pub agrees-back : (old new : List Known) (ex : List ℕ) (ns : List Node) (d : Input) → length old ≡ length new
    → AllNarrower old new → AgreesWith new ex ns d → AgreesWith old ex ns d
agrees-back old new ex ns d len h a i l = search (arith, narrower-admits)

pub admits-word : (ks : List Known) (ex : List ℕ) (ns : List Node) (d : Input) (w : ℕ) (more : Known) → IsPool ns
    → w < 16 → length ks ≡ length ns → IsNarrower more (known_at ks w)
    → AgreesWith ks ex ns d → Admits more (slice_index d.words w)
admits-word ks ex ns d w more p l len h a = search (arith, value-word, narrower-admits)

-- a node of the older pool
pub node-older : (before ns : List Node) (i : ℕ) → Extends before ns → i < length before
    → node_at ns i ≡ node_at before i
node-older before ns i more l = ap (λ xs. node_at xs i) more.1 ∙ get_or_append_left before more.0 (Const 0) i l

-- an input agrees on a pool where it agrees on the beginning that the facts speak of
agrees-before : (ks : List Known) (ex : List ℕ) (before ns : List Node) (d : Input) → length ks ≡ length before
    → Extends before ns → AgreesWith ks ex ns d → AgreesWith ks ex before d
agrees-before ks ex before ns d len more a i l = search (arith, value-older, node-older)

agrees-after : (ks : List Known) (ex : List ℕ) (before ns : List Node) (d : Input) → length ks ≡ length before
    → Extends before ns → AgreesWith ks ex before d → AgreesWith ks ex ns d
agrees-after ks ex before ns d len more a i l = search (arith, value-older, node-older)

-- an input that agrees after new nodes are taken in agreed before
agrees-kept : (old new : List Known) (ex : List ℕ) (ns : List Node) (d : Input) → take (length old) new ≡ old
    → length old ≤ length new → AgreesWith new ex ns d → AgreesWith old ex ns d
agrees-kept old new ex ns d kept le a i l = search (arith, get_or-take)

-- a node at rest is so in a longer pool, where nothing is known of newer nodes before
older-rest : (old new : List Known) (ex : List ℕ) (before ns : List Node) (i : ℕ) → IsPool before
    → i < length before → ((j : ℕ) → j ≤ i → known_at old j ≡ known_at new j) → node_at ns i ≡ node_at before i
    → IsAtRest old ex before i → IsAtRest new ex ns i
older-rest old new ex before ns i p l same node h = grind (arith, common_steps, operands-below, forward-same)

-- where nothing more follows for the older nodes, nothing more follows for any once newer nodes are taken in
pub grown-rest : (old new : List Known) (ex : List ℕ) (before ns : List Node) → IsPool before
    → length old ≡ length before → Extends before ns → AreTakenIn old new ex ns
    → ((i : ℕ) → i < length before → IsAtRest old ex before i) → (i : ℕ) → i < length ns → IsAtRest new ex ns i
grown-rest old new ex before ns p count longer g rest i l = elim (cases_lt i (length old)) [
  | inl b ↦ older-rest old new ex before ns i p (omega arith) (λ j c. taken-older old new j g.kept (omega arith))
      (node-older before ns i longer (omega arith)) (rest i (omega arith))
  | inr a ↦ taken-rest old new ex ns g i a l
]

-- facts once newer nodes are taken in
pub grown-covers : (f g : FactsView) (before ns : List Node) → IsPool ns → Covers f before → Extends before ns
    → GrowsBy f g ns → Covers g ns
grown-covers f g before ns p h longer by =
    let count = h.count in
    let older : (i : ℕ) → i < length f.known → node_at ns i ≡ node_at before i =
    λ i l. node-older before ns i longer (omega arith) in
    record {
      pool = p;
      count = by.known.count;
      words = ap length by.excluded ∙ h.words;
      rest = rw by.excluded (grown-rest f.known g.known f.excluded before ns h.pool count longer by.known h.rest);
      fixed = rw by.variables (taken-fixed f.variables f.known g.known f.excluded ns p by.known (λ i l.
          elim (h.fixed i (omega arith)) [
            | inl v ↦ inl v
            | inr k ↦ inr (record { operands = rw (older i l) k.operands; still = rw (older i l) k.still })
          ]));
    }

-- Where the newer nodes of a longer pool are taken in, the inputs that agreed on its beginning agree, and no others;
-- where they can't be, none agreed.
module _ (f : FactsView) (before ns : List Node) (h : Covers f before) (longer : Extends before ns) where
  goes-on : (d : Input) → IsInput d → IsPool ns → AgreesWith f.known f.excluded before d → (r : Option (List Known))
      → TakingInGives f.known f.excluded ns r → MatchOption r ⊥ (λ new. AgreesWith new f.excluded ns d)
  goes-on d i p a r g =
      taking-sound f.known f.excluded ns d p i (λ j l. (h.rest j (omega arith)).closed.known)
      (agrees-after f.known f.excluded before ns d h.count longer a) (inl (covers-facts f before h).count) r g

  pub grown-takes-in : (new : FactsView) → Covers new ns → GrowsBy f new ns → TakesIn f new before ns
  unfolding Agrees
  grown-takes-in new covers g = record {
    covers = covers;
    keeps = λ d i a. rw g.excluded (goes-on d i covers.pool a (Some new.known) g.known);
    only = λ d i a. agrees-before f.known f.excluded before ns d h.count longer
        (agrees-kept f.known new.known f.excluded ns d g.known.kept (taken-length f.known new.known g.known.kept)
        (rw g.excluded at a));
  }

  pub none-agreed : IsPool ns → CantGrow f ns → NoneAgrees f before
  unfolding Agrees
  none-agreed p g d i a = goes-on d i p a None g

-- what is known once newer nodes are taken in, whatever the pool was
pub grown-facts : (places more : List ℕ) (old new : List Known) (ex : List ℕ) (ns : List Node) → IsPool ns
    → AreFacts (record { known = old; variables = places; excluded = ex }) → AreTakenIn old new ex ns
    → AreFacts (record { known = new; variables = more; excluded = ex })
grown-facts places more old new ex ns p h g =
    record {
      count = omega arith;
      words = h.words;
      consistent = λ i l. taken-consistent old new ex ns (length ns) g.kept h.consistent (λ k a b. g.each k a b) i
          (omega arith);
      tight = λ w l. rw (taken-older old new w g.kept (omega (arith, h.count))) at (h.tight w l);
    }

-- an excluded number is not agreed with any more
pub agrees-with-fewer : (ks : List Known) (ex ex' : List ℕ) (ns : List Node) (d : Input)
    → ((w m : ℕ) → Has (numbers_at ex w) m → Has (numbers_at ex' w) m) → AgreesWith ks ex' ns d → AgreesWith ks ex ns d
agrees-with-fewer ks ex ex' ns d more a i l = grind (arith, common_steps)

-- an input
pub no-input : (d : Input) × IsInput d
no-input = (record { words = replicate 16 0 }, record { sixteen = refl; each = λ i. zeros 16 i })
  where
    zeros : (n i : ℕ) → get_or (replicate n 0) i 0 < 2 ^ 32
    zeros zero i = omega arith
    zeros (suc n) zero = omega arith
    zeros (suc n) (suc i) = zeros n i

-- The first facts: what follows for each node of a pool, where no number is excluded.
module _ (ex : List ℕ) (ns : List Node) (p : IsPool ns) (none : (w : ℕ) → numbers_at ex w ≡ 0) where
  first-goes-on : (d : Input) → IsInput d → (r : Option (List Known)) → TakingInGives [] ex ns r
      → MatchOption r ⊥ (λ new. AgreesWith new ex ns d)
  first-goes-on d i r g = taking-sound [] ex ns d p i (λ j l. absurd (omega arith))
      (λ j l. absurd (omega arith)) (inr none) r g

  pub first-fails : ¬ TakingInGives [] ex ns None
  first-fails g = first-goes-on no-input.0 no-input.1 None g

pub first-covers : (f : FactsView) (ns : List Node) → IsPool ns → StartsBy f ns → Covers f ns
first-covers f ns p h = record {
  pool = p;
  count = h.known.count;
  words = h.words;
  rest = λ i l. taken-rest [] f.known f.excluded ns h.known i (omega arith) l;
  fixed = rw h.variables (taken-fixed [] [] f.known f.excluded ns p h.known (λ k l. absurd (omega arith)));
}

pub first-sound : (f : FactsView) (ns : List Node) → IsPool ns → StartsBy f ns → (d : Input) → IsInput d
    → Agrees f ns d
unfolding Agrees
first-sound f ns p h d i = first-goes-on f.excluded ns p h.excluded d i (Some f.known) h.known
