-- The first input to which a tree gives another number than 0.
use Rattle.sf_diagram.proofs.Common.{common_steps, ◌≡◌, ℕ, suc, ◌<◌, ◌≤◌, Bool, true, false, List, [], ◌∷◌, ◌++◌, refl, sym, ap, subst, ◌∙◌, inl, inr, arith, fun_ext, cases_order, cases_eq, eq-eqb, ne_eqb, or_right, list_any-append, Tree, Leaf, Fork, Bits, bits_with, IsOrderedFrom, IsLeastNonzero}
use Rattle.sf_diagram.proofs.TreeLemmas.{with_bit, with_bit-same, with_bit-other, value-above, value-higher}

-- one more variable is true
bits_with-push : (vs : List ℕ) (v w : ℕ) → bits_with (vs ++ v ∷ []) w ≡ with_bit (bits_with vs) v true w
bits_with-push vs v w = grind (arith, common_steps, cases_eq, eq-eqb, ne_eqb, or_right, list_any-append, bits_with)

-- where all true variables are from n on, one below n is false
below-false : (b : Bool) (n v : ℕ) → (b ≡ true → n ≤ v) → v < n → b ≡ false
below-false true n v h l = absurd (omega (arith, h refl))
below-false false n v h l = refl

-- the lower side gives 0 to each input: the first input is the higher side's with the variable
pub least-higher : (v : ℕ) (h : Tree) (vs : List ℕ) → IsOrderedFrom (suc v) h
    → ((w : ℕ) → bits_with vs w ≡ true → suc v ≤ w) → IsLeastNonzero h (bits_with vs)
    → IsLeastNonzero (Fork v (Leaf 0) h) (bits_with (vs ++ v ∷ []))
least-higher v h vs o above is =
    let least : Bits = bits_with vs in
    let pushed : bits_with (vs ++ v ∷ []) ≡ with_bit least v true = fun_ext (bits_with-push vs v) in
    subst (λ (b : Bits). IsLeastNonzero (Fork v (Leaf 0) h) b) (sym pushed) (record {
      some = λ e. is.some (sym (value-higher v (Leaf 0) h least o) ∙ e);
      first = λ bits before. elim (cases_order before.0 v) [
        | inl e ↦ rw (sym (ap bits e) ∙ before.1) refl
        | inr (inl less) ↦ absurd (omega (
          arith,
          above before.0 (sym (with_bit-other least v true before.0 (omega arith)) ∙ before.2),
        ))
        | inr (inr more) ↦ (
            let high : bits v ≡ true = before.3 v more ∙ with_bit-same least v true in
            let here : least v ≡ false = below-false (least v) (suc v) v (above v) (omega arith) in
            rw high (sym (value-above h (suc v) v false bits o (omega arith)) ∙ is.first (with_bit bits v false) (
              before.0,
              with_bit-other bits v false before.0 (omega arith) ∙ before.1,
              sym (with_bit-other least v true before.0 (omega arith)) ∙ before.2,
              λ w l. elim (cases_eq w v) [
                | inl same ↦ rw same (with_bit-same bits v false ∙ sym here)
                | inr other ↦ with_bit-other bits v false w other ∙ before.3 w l ∙ with_bit-other least v true w other
              ],
            )))
      ];
    })
