-- What facts promise of the inputs that agree, where they take in an interval or known bits of a word.
use Rattle.sf_dom.proofs.Common.{◌≡◌, ℕ, ◌<◌, ◌-◌, ◌^◌, List, arith, min, sym, ap, ◌∙◌, and_le_l, and_le_r, bit_at-lt, bit_at_and, bit_at_not, bit_and, bit_at, w32, Node, Admits, HasBits, known_of, FactsView, Covers, NoInput, HasIn, LiesIn, HasMasked, ConfinesWord, TakesInBy, CantTakeInBy, between, masked, bit_at-complement, same_from_bits_below}
use Rattle.sf_dom.proofs.RuleLaws.{between-admits}
use Rattle.sf_dom.proofs.Assumed.{confines, cant-confine, confines-as, no-input-as}

-- a number that has, on the bits of a mask, those of a value
pub masked-admits : (n mask value : ℕ) → value < 2 ^ 32 → n < 2 ^ 32 → bit_and n mask ≡ value
    → Admits (known_of 0 4294967295 (bit_and mask (4294967295 - value)) value) n
masked-admits n mask value fv fn e =
    let is : (i : ℕ) → bit_at value i ≡ min (bit_at n i) (bit_at mask i)
    = λ i. ap (λ m. bit_at m i) (sym e) ∙ bit_at_and n mask i in
    record {
      above = omega arith;
      below = omega arith;
      bits = record {
        zero = λ i.
            let v = is i in let k = bit_at-complement value i fv in let x = bit_at-lt n i in
            let m = bit_at-lt mask i in omega (arith, bit_at_and mask (4294967295 - value) i);
        one = λ i. omega (arith, is i);
      };
    }

pub admits-masked : (n mask value : ℕ) → mask < 2 ^ 32 → value < 2 ^ 32 → bit_and value mask ≡ value
    → HasBits n (bit_and mask (4294967295 - value)) value → bit_and n mask ≡ value
admits-masked n mask value fm fv inside h =
    let le = and_le_r n mask in
    same_from_bits_below 32 (bit_and n mask) value (omega arith) fv (λ i l.
    let z = h.zero i in let o = h.one i in let k = bit_at_not w32 value i fv l in
    let v = ap (λ m. bit_at m i) (sym inside) ∙ bit_at_and value mask i in let x = bit_at-lt n i in
    let m = bit_at-lt mask i in let y = bit_at-lt value i in
    bit_at_and n mask i ∙ omega (arith, bit_at_and mask (4294967295 - value) i))

pub confines-range : (f new : FactsView) (ns : List Node) (w low high : ℕ) → Covers f ns → w < 16 → Covers new ns
    → TakesInBy f new ns w (between low high) → ConfinesWord f new ns w (LiesIn low high)
confines-range f new ns w low high h l covers x =
    confines-as f ns w (Admits (between low high)) (LiesIn low high) (λ n s k. between-admits low high n k.0 k.1) new
    (λ n s k. (k.above, k.below)) (confines f ns w (between low high) h l (omega arith) new covers x)

pub cant-confine-range : (f : FactsView) (ns : List Node) (w low high : ℕ) → Covers f ns → w < 16
    → CantTakeInBy f ns w (between low high) → NoInput f ns (HasIn w (LiesIn low high))
cant-confine-range f ns w low high h l x =
    no-input-as f ns w (Admits (between low high)) (LiesIn low high) (λ n s k. between-admits low high n k.0 k.1)
    (cant-confine f ns w (between low high) h l (omega arith) x)

-- a value under a mask
module _ (mask value : ℕ) (fits : mask < 2 ^ 32) (inside : bit_and value mask ≡ value) where
  value-fits : value < 2 ^ 32
  value-fits = let le = and_le_r value mask in omega arith

  admitted : (n : ℕ) → n < 2 ^ 32 → HasMasked mask value n → Admits (masked mask value) n
  admitted n s k = rw inside (masked-admits n mask value value-fits s k)

  zeros-fit : (masked mask value).zeros < 2 ^ 32
  zeros-fit = let le = and_le_l mask (4294967295 - value) in omega arith

  pub confines-masked : (f new : FactsView) (ns : List Node) (w : ℕ) → Covers f ns → w < 16 → Covers new ns
      → TakesInBy f new ns w (masked mask value) → ConfinesWord f new ns w (HasMasked mask value)
  confines-masked f new ns w h l covers x =
      confines-as f ns w (Admits (masked mask value)) (HasMasked mask value) admitted new
      (λ n s k. admits-masked n mask value fits value-fits inside (rw inside at k.bits))
      (confines f ns w (masked mask value) h l zeros-fit new covers x)

  pub cant-confine-masked : (f : FactsView) (ns : List Node) (w : ℕ) → Covers f ns → w < 16
      → CantTakeInBy f ns w (masked mask value) → NoInput f ns (HasIn w (HasMasked mask value))
  cant-confine-masked f ns w h l x =
      no-input-as f ns w (Admits (masked mask value)) (HasMasked mask value) admitted
      (cant-confine f ns w (masked mask value) h l zeros-fit x)
