-- No whole route begins another, and a route of a lawful stack has at most 32768 + 32 * 64 truth values.
use Rattle.std.proofs.Common.{◌≡◌, ℕ, ◌+◌, ◌*◌, ◌≤◌, Bool, true, false, List, [], ◌∷◌, ◌++◌, length, Option, Some, None, refl, sym, ap, subst, ◌∙◌, inl, inr, arith, append_assoc}
use Rattle.std.specs.Prelude.{if◌then◌else◌, reverse, sum_by}
use Rattle.std.proofs.lemmas.Option.{same_Some, slice_get_within}
use Rattle.std.proofs.lemmas.List.{append_cancel_left, length-append, length-reverse}
use Rattle.std.proofs.lemmas.List.Sorted.{IsPermutation-reverse, sum_by-IsPermutation}
use Rattle.std.proofs.lemmas.List.Sums.{sum_by-cons}
use Rattle.sf_check.specs.laws.PathLengthLaws.{path_length-sum}
use Rattle.sf_run.specs.Common.{IsLawfulStack, Div, Insn, Alu, Jump, Branch, ReturnConstant, ReturnA, X}
use Rattle.sf_run.specs.Routes.{MayMeet, IsWay, returns_at, goes_on, AreWays, IsRoute}

-- ---- no whole route begins another

-- where an instruction leads follows from what it meets, whatever comes after
meets_one : (at : ℕ) (i : Insn) (a b : List Bool) (to to' : Option ℕ) (x y : List Bool) → MayMeet at i a to
    → MayMeet at i b to' → a ++ x ≡ b ++ y → (a ≡ b) × (to ≡ to') × (x ≡ y)
meets_one at i a b to to' x y p q e = by i p q
  where
    none : (a ≡ []) → (b ≡ []) → (to ≡ to') → (a ≡ b) × (to ≡ to') × (x ≡ y)
    none p q t = (p ∙ sym q, t, append_cancel_left a x y (e ∙ ap (λ (l : List Bool). l ++ y) (q ∙ sym p)))

    plain : (t : ℕ) → (a ≡ []) × (to ≡ Some t) → (b ≡ []) × (to' ≡ Some t) → (a ≡ b) × (to ≡ to') × (x ≡ y)
    plain t p q = none p.0 q.0 (p.1 ∙ sym q.1)

    one : (u v : Bool) → a ≡ u ∷ [] → b ≡ v ∷ [] → (u ≡ v) × (a ≡ b) × (x ≡ y)
    one u v p q =
        let both : u ∷ x ≡ v ∷ y = sym (ap (λ (l : List Bool). l ++ x) p) ∙ e ∙ ap (λ (l : List Bool). l ++ y) q in
        let head : u ≡ v = cc in
        let tail : x ≡ y = cc in
        (head, cc, tail)

    by : (i : Insn) → MayMeet at i a to → MayMeet at i b to' → (a ≡ b) × (to ≡ to') × (x ≡ y)
    by (ReturnConstant k) p q = none p.0 q.0 (p.1 ∙ sym q.1)
    by ReturnA p q =
        let same : a ≡ b = same_front a b x y (p.0 ∙ sym q.0) e in
        (same, p.1 ∙ sym q.1, append_cancel_left a x y (e ∙ ap (λ (l : List Bool). l ++ y) (sym same)))
      where
        same_front : (a b x y : List Bool) → length a ≡ length b → a ++ x ≡ b ++ y → a ≡ b
        same_front [] [] x y len e = refl
        same_front [] (v ∷ b) x y len e = absurd (omega arith)
        same_front (u ∷ a) [] x y len e = absurd (omega arith)
        same_front (u ∷ a) (v ∷ b) x y len e =
            let head : u ≡ v = cc in
            let rest : a ++ x ≡ b ++ y = cc in
            let tail : a ≡ b = same_front a b x y (omega arith) rest in
            cc
    by (Jump k) p q = plain (at + 1 + k) p q
    by (Branch test other t f) p q =
        let same = one p.0 q.0 p.1 q.1 in
        (same.1, p.2 ∙ ap (λ (u : Bool). Some (at + 1 + (if u then t else f))) same.0 ∙ sym q.2, same.2)
    by (Alu Div X) (inl p) (inl q) = let same = one true true p.0 q.0 in (same.1, p.1 ∙ sym q.1, same.2)
    by (Alu Div X) (inr p) (inr q) = let same = one false false p.0 q.0 in (same.1, p.1 ∙ sym q.1, same.2)
    by (Alu Div X) (inl p) (inr q) = let same = one true false p.0 q.0 in let clash = same.0 in absurd cc
    by (Alu Div X) (inr p) (inl q) = let same = one false true p.0 q.0 in let clash = same.0 in absurd cc
    by _ p q = plain (at + 1) p q

-- two ways from a place with which the same truth values begin are the same
pub one_way : (code : List Insn) (at : ℕ) (a b x y : List Bool) → IsWay code at a → IsWay code at b → a ++ x ≡ b ++ y
    → (a ≡ b) × (x ≡ y)
one_way code at a b x y (returns_at i here p) (returns_at j here' q) e =
    let same : j ≡ i = same_Some j i (sym here' ∙ here) in
    let m = meets_one at i a b None None x y p (subst (λ (k : Insn). MayMeet at k b None) same q) e in
    (m.0, m.2)
one_way code at a b x y (returns_at i here p) (goes_on j met to more here' q rest w) e =
    let same : j ≡ i = same_Some j i (sym here' ∙ here) in
    let m = meets_one at i a met None (Some to) x (more ++ y) p
    (subst (λ (k : Insn). MayMeet at k met (Some to)) same q)
    (e ∙ ap (λ (l : List Bool). l ++ y) w ∙ append_assoc met more y) in
    let clash = m.1 in absurd cc
one_way code at a b x y (goes_on i met to more here p rest w) (returns_at j here' q) e =
    let same : i ≡ j = same_Some i j (sym here ∙ here') in
    let m = meets_one at j met b (Some to) None (more ++ x) y (subst (λ (k : Insn). MayMeet at k met (Some to)) same p)
    q (sym (append_assoc met more x) ∙ sym (ap (λ (l : List Bool). l ++ x) w) ∙ e) in
    let clash = m.1 in absurd cc
one_way code at a b x y (goes_on i met to more here p rest w) (goes_on j met' to' more' here' q rest' w') e =
    let same : j ≡ i = same_Some j i (sym here' ∙ here) in
    let both : met ++ (more ++ x) ≡ met' ++ (more' ++ y) = sym (append_assoc met more x)
    ∙ sym (ap (λ (l : List Bool). l ++ x) w) ∙ e ∙ ap (λ (l : List Bool). l ++ y) w' ∙ append_assoc met' more' y in
    let m = meets_one at i met met' (Some to) (Some to') (more ++ x) (more' ++ y) p
    (subst (λ (k : Insn). MayMeet at k met' (Some to')) same q) both in
    let t : to' ≡ to = sym (same_Some to to' m.1) in
    let on = one_way code to more more' x y rest (subst (λ (k : ℕ). IsWay code k more') t rest') m.2 in
    (w ∙ ap (λ (l : List Bool). met ++ l) on.0 ∙ ap (λ (l : List Bool). l ++ more') m.0 ∙ sym w', on.1)

-- two ways through the same programs with which the same truth values begin are the same
pub one_whole : (codes : List (List Insn)) (a b x y : List Bool) → AreWays codes a → AreWays codes b → a ++ x ≡ b ++ y
    → (a ≡ b) × (x ≡ y)
one_whole [] a b x y p q e = (p ∙ sym q, append_cancel_left a x y (e ∙ ap (λ (l : List Bool). l ++ y) (q ∙ sym p)))
one_whole (code ∷ codes) a b x y (m, n, way, ways, w) (m', n', way', ways', w') e =
    let both : m ++ (n ++ x) ≡ m' ++ (n' ++ y) = sym (append_assoc m n x) ∙ sym (ap (λ (l : List Bool). l ++ x) w) ∙ e
    ∙ ap (λ (l : List Bool). l ++ y) w' ∙ append_assoc m' n' y in
    let first = one_way code 0 m m' (n ++ x) (n' ++ y) way way' both in
    let rest = one_whole codes n n' x y ways ways' first.1 in
    (w ∙ ap (λ (l : List Bool). m ++ l) rest.0 ∙ ap (λ (l : List Bool). l ++ n') first.0 ∙ sym w', rest.1)

-- ---- how long routes are

-- an instruction that goes on meets no more truth values than it goes on by places, and one that returns at most 32
abbrev IsShort : ℕ → List Bool → Option ℕ → Type 0
IsShort at met (Some to) = length met + at ≤ to
IsShort at met None = length met ≤ 32

meets_short : (at : ℕ) (i : Insn) (met : List Bool) (to : Option ℕ) → MayMeet at i met to → IsShort at met to
meets_short at i met to m = by i m
  where
    on : (place : ℕ) → length met + at ≤ place → to ≡ Some place → IsShort at met to
    on place short e = rw e short

    back : length met ≤ 32 → to ≡ None → IsShort at met to
    back short e = rw e short

    plain : (place : ℕ) → at ≤ place → (met ≡ []) × (to ≡ Some place) → IsShort at met to
    plain place later m = on place (omega (arith, ap length m.0)) m.1

    by : (i : Insn) → MayMeet at i met to → IsShort at met to
    by (ReturnConstant k) m = back (omega (arith, ap length m.0)) m.1
    by ReturnA m = back (omega (arith, m.0)) m.1
    by (Jump k) m = plain (at + 1 + k) (omega arith) m
    by (Branch test other t f) m = on (at + 1 + (if m.0 then t else f)) (omega (arith, ap length m.1)) m.2
    by (Alu Div X) (inl m) = back (omega (arith, ap length m.0)) m.1
    by (Alu Div X) (inr m) = on (at + 1) (omega (arith, ap length m.0)) m.1
    by _ m = plain (at + 1) (omega arith) m

way_short : (code : List Insn) (at : ℕ) (met : List Bool) → IsWay code at met → length met + at ≤ length code + 31
way_short code at met (returns_at i here m) =
    omega (arith, meets_short at i met None m, slice_get_within code at i here)
way_short code at whole (goes_on i met to more here m rest w) =
    omega (
      arith,
      meets_short at i met (Some to) m,
      ap length w,
      length-append met more,
      way_short code to more rest,
    )

abbrev counted : List Insn → ℕ
counted p = length p + 4

ways_short : (codes : List (List Insn)) (whole : List Bool) → AreWays codes whole → length whole ≤ sum_by counted codes
    + 27 * length codes
ways_short [] whole w = omega (arith, ap length w)
ways_short (code ∷ codes) whole (met, more, way, ways, w) =
    omega (
      arith,
      ap length w,
      length-append met more,
      sum_by-cons counted code codes,
      way_short code 0 met way,
      ways_short codes more ways,
    )

-- a route of a lawful stack has at most 32768 + 32 * 64 truth values
pub route_is_short : (programs : List (List Insn)) (route : List Bool) → IsLawfulStack programs → IsRoute programs route
    → length route ≤ 32768 + 32 * 64
route_is_short programs route lawful (more, whole) =
    omega (
      arith,
      length-append route more,
      ways_short (reverse programs) (route ++ more) whole,
      length-reverse programs,
      sum_by-IsPermutation counted programs (reverse programs) (IsPermutation-reverse programs),
      path_length-sum programs,
      lawful.few,
      lawful.short,
    )
