-- Steps by the rules: what each gives is closed and loses nothing, and no input that agrees is lost.
use Rattle.sf_dom.proofs.Common.{◌≡◌, ℕ, ◌<◌, ◌^◌, ◌-◌, List, length, set, arith, ◌∙◌, cases_eq, get_or-set_same, get_or-set_other, length-set, Option, Some, None, MatchOption, IfSome, IsInput, Input, IsPool, value_of, Node, Known, Has, Admits, IsNarrower, known_of, known_at, numbers_at, AgreesWith, IsNarrowed, met, IsClosed, IsClosedAt, IsReduction, ReductionGives, Then, AreClosed, WritingGives, common_steps, IfSome_then, value-small}
use Rattle.sf_dom.proofs.Bits.{join-bits}
use Rattle.sf_dom.proofs.propagation.Propagations.{closed-set}
use Rattle.sf_dom.proofs.Reductions.{IsNarrower-trans, IsNarrower-refl}
use Rattle.sf_dom.proofs.RuleLaws.{number-narrows, narrows-number, number-closed}
use Rattle.sf_dom.proofs.Then.{then-some, then-if}

-- A step from what is known of the nodes of a pool: what it gives is closed and loses nothing, and the inputs that
-- agree and have a property go on to agree.
pub record IsLawful (has : Input → Type 0) (ks : List Known) (ex : List ℕ) (ns : List Node)
    (gives : Option (List Known) → Type 0) : Type 0 where
  pub narrowed : (r : Option (List Known)) → gives r → IfSome r (λ next. IsNarrowed ks next ex ns)
  pub sound : (d : Input) → IsInput d → has d → AgreesWith ks ex ns d → (r : Option (List Known)) → gives r
      → MatchOption r ⊥ (λ next. AgreesWith next ex ns d)

-- any input
abbrev pub AnyInput : Input → Type 0
AnyInput d = Unit {0}

pub narrowed-refl : (ks : List Known) (ex : List ℕ) (ns : List Node) → AreClosed ks ns → IsNarrowed ks ks ex ns
narrowed-refl ks ex ns h = grind (arith, common_steps, IsNarrower-refl)

pub narrowed-trans : (a b c : List Known) (ex : List ℕ) (ns : List Node) → AreClosed a ns → IsNarrowed a b ex ns
    → IsNarrowed b c ex ns → IsNarrowed a c ex ns
narrowed-trans a b c ex ns k h g =
    record {
      closed = g.closed;
      narrower = λ i l. IsNarrower-trans (known_at a i) (known_at b i) (known_at c i) (h.narrower i l)
          (g.narrower i (omega arith));
      kept = λ words. g.kept (h.kept words);
    }

-- a node is written
pub narrowed-set : (ks : List Known) (ex : List ℕ) (ns : List Node) (i : ℕ) (next : Known) → AreClosed ks ns
    → i < length ns → IsClosedAt ex i next → IsNarrower (known_at ks i) next → IsNarrowed ks (set ks i next) ex ns
narrowed-set ks ex ns i next h l closed narrower =
    let count = h.count in let none : Known = known_of 0 0 0 0 in let here : i < length ks = omega arith in
    record {
      closed = record {
        count = length-set ks i next ∙ count;
        each = grind (arith, common_steps, cases_eq, get_or-set_same, get_or-set_other);
      };
      narrower = grind (arith, common_steps, cases_eq, get_or-set_same, get_or-set_other, IsNarrower-refl);
      kept = λ words w b. closed-set ks ex i next here closed w (words w b);
    }

-- and so it is where more is known of it, and reduced
pub narrowed-left : (ks : List Known) (ex : List ℕ) (ns : List Node) (i : ℕ) (old next : Known) → AreClosed ks ns
    → i < length ns → IsNarrower (known_at ks i) old → IsReduction ex i old next → IsNarrowed ks (set ks i next) ex ns
narrowed-left ks ex ns i old next h l n r =
    narrowed-set ks ex ns i next h l r.is (IsNarrower-trans (known_at ks i) old next n r.narrower)

-- an input agrees still where a node is written that admits its value
pub agrees-set : (ks : List Known) (ex : List ℕ) (ns : List Node) (d : Input) (i : ℕ) (next : Known)
    → i < length ks → AgreesWith ks ex ns d → Admits next (value_of ns d i) → AgreesWith (set ks i next) ex ns d
agrees-set ks ex ns d i next l a h j lj =
    grind (arith, common_steps, cases_eq, get_or-set_same, get_or-set_other, length-set)

-- the value of a word is not excluded for it
pub kept-at : (ks : List Known) (ex : List ℕ) (ns : List Node) (d : Input) (i : ℕ) → IsPool ns
    → i < length ks → AgreesWith ks ex ns d → i < 16 → ¬ Has (numbers_at ex i) (value_of ns d i)
kept-at ks ex ns d i p l a b = rw (p.word i b) at (a i l).kept

-- two pieces of knowledge admit a number together that each of them admits
pub met-admits : (a b : Known) (n : ℕ) → Admits a n → Admits b n → Admits (met a b) n
met-admits a b n h k = grind (arith, common_steps, join-bits)

-- closed knowledge has its bits within a word
pub closed-zeros : (k : Known) → IsClosed k → k.zeros < 2 ^ 32
closed-zeros k h = omega (arith, h.high)

pub closed-ones : (k : Known) → IsClosed k → k.ones < 2 ^ 32
closed-ones k h = omega (arith, h.low, h.ordered, h.fits)

-- reduction keeps each number that is left
pub reduction-holds : (o : Option Known) (ex : List ℕ) (i n : ℕ) (old : Known) → n < 2 ^ 32
    → old.zeros < 2 ^ 32 → (i < 16 → ¬ Has (numbers_at ex i) n) → Admits old n → ReductionGives ex i old o
    → MatchOption o ⊥ (λ k. Admits k n)
reduction-holds None ex i n old f fz kept h none =
    none (known_of n n (4294967295 - n) n) (number-closed ex i n f kept) (number-narrows old n f fz h)
reduction-holds (Some k) ex i n old f fz kept h w = narrows-number k n f
    (w.widest (known_of n n (4294967295 - n) n) (number-closed ex i n f kept) (number-narrows old n f fz h))

-- to write a node is a lawful step
pub writing-lawful : (has : Input → Type 0) (ks : List Known) (ex : List ℕ) (ns : List Node) (i : ℕ) (known : Known)
    → IsPool ns → AreClosed ks ns → i < length ns → IsNarrower (known_at ks i) known → known.zeros < 2 ^ 32
    → ((d : Input) → IsInput d → has d → AgreesWith ks ex ns d → Admits known (value_of ns d i))
    → IsLawful has ks ex ns (WritingGives ks ex i known)
writing-lawful has ks ex ns i known p h l narrower fz admits =
    let count = h.count in let here : i < length ks = omega arith in
    record {
      narrowed = then-if (ReductionGives ex i known) (λ left r. r ≡ Some (set ks i left))
          (λ next. IsNarrowed ks next ex ns) (λ left g r e. rw e (narrowed-left ks ex ns i known left h l narrower g));
      sound = λ d v m a.
          then-some (ReductionGives ex i known) (λ left r. r ≡ Some (set ks i left))
          (λ left. Admits left (value_of ns d i)) (λ next. AgreesWith next ex ns d)
          (λ o g. reduction-holds o ex i (value_of ns d i) known (value-small ns d i p v) fz
          (λ b. kept-at ks ex ns d i p here a b) (admits d v m a) g)
          (λ left g k r e. rw e (agrees-set ks ex ns d i left here a k));
    }

-- one lawful step after another is lawful
pub then-lawful : (has later : Input → Type 0) (ks : List Known) (ex : List ℕ) (ns : List Node)
    (first : Option (List Known) → Type 0) (second : List Known → Option (List Known) → Type 0) → AreClosed ks ns
    → ((d : Input) → has d → AgreesWith ks ex ns d → later d) → IsLawful has ks ex ns first
    → ((next : List Known) → AreClosed next ns → IsLawful later next ex ns (second next))
    → IsLawful has ks ex ns (Then first second)
then-lawful has later ks ex ns first second k to h g =
    let step : (next : List Known) → first (Some next) → IsNarrowed ks next ex ns =
    λ next f. h.narrowed (Some next) f in
    record {
      narrowed = then-if first second (λ next. IsNarrowed ks next ex ns) (λ next f r s.
          let n = step next f in
          IfSome_then r ((g next n.closed).narrowed r s) (λ c. narrowed-trans ks next c ex ns k n));
      sound = λ d v m a. then-some first second (λ next. AgreesWith next ex ns d) (λ next. AgreesWith next ex ns d)
          (h.sound d v m a) (λ next f b r s. (g next (step next f).closed).sound d v (to d m a) b r s);
    }
