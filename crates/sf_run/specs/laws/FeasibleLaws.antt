-- A stack has exactly one list of feasible traces.
use Rattle.std.proofs.Common.{◌≡◌, Bool, true, false, List, [], ◌∷◌, map, refl, sym, ◌∙◌, ap, subst, ◌⊎◌, inl, inr}
use Rattle.std.specs.Prelude.{Contains}
use Rattle.sf_run.specs.Common.{bool_cmp, is_eq, ordering_reverse, match_ordering, Ordering, Less, Greater, IsTotalOrder, bool_cmp_total, slice_cmp, lists_total, AllByRecursion, IsStrictlySortedBy, Insn}
use Rattle.std.specs.declared.cmp.Ordering.TheVariants.{Equal}
use Rattle.std.proofs.lemmas.List.Elements.{All-contains, All-from_recursion}
use Rattle.sf_check.specs.laws.ContainsLaws.{contains_cons, contains_here, contains_there, contains_nil}
use Rattle.sf_run.specs.Machine.{trace_of}
use Rattle.sf_run.specs.Feasible.{IsFeasible, AreFeasibleTraces, AreInNameOrder, all_inputs, put_in, in_name_order, feasible_traces}
use Rattle.sf_run.specs.laws.InputLaws.{contains_map, map_contains, inputs_are}

-- ---- at most one

-- name order is total
pub names_total : IsTotalOrder (slice_cmp bool_cmp)
names_total = lists_total bool_cmp_total

-- of two names at most one comes before the other
pub before_one_way : (a b : List Bool) → slice_cmp bool_cmp a b ≡ Less → slice_cmp bool_cmp b a ≡ Less → ⊥
before_one_way a b p q =
    let clash : Less ≡ Greater = sym p ∙ names_total.antisymm a b ∙ ap ordering_reverse q in cc

-- the first name of a list in order comes before any other
first_before : (x y : List Bool) (xs : List (List Bool)) → AllByRecursion (λ z. slice_cmp bool_cmp x z ≡ Less) xs
    → Contains xs y → slice_cmp bool_cmp x y ≡ Less
first_before x y xs all c =
    let P = λ (z : List Bool). slice_cmp bool_cmp x z ≡ Less in
    All-contains P xs y (All-from_recursion P xs all) c

-- Where all names of x ∷ xs, in order, are names of x ∷ ys, all names of xs are names of ys.
later_in : (x : List Bool) (xs ys : List (List Bool)) → AreInNameOrder (x ∷ xs)
    → ((t : List Bool) → Contains (x ∷ xs) t → Contains (x ∷ ys) t) → (t : List Bool) → Contains xs t → Contains ys t
unfolding IsStrictlySortedBy
later_in x xs ys order within t c =
    elim (contains_cons x ys t (within t (contains_there x xs t c))) [
      | inl e ↦
          let before = first_before x t xs order.0 c in
          let self : slice_cmp bool_cmp x x ≡ Less =
          subst (λ (u : List Bool). slice_cmp bool_cmp x u ≡ Less) (sym e) before in
          absurd (before_one_way x x self self)
      | inr found ↦ found
    ]

-- lists in name order that have the same names are equal
pub one_order : (a b : List (List Bool)) → AreInNameOrder a → AreInNameOrder b
    → ((t : List Bool) → Contains a t → Contains b t) → ((t : List Bool) → Contains b t → Contains a t) → a ≡ b
unfolding IsStrictlySortedBy
one_order [] [] p q ab ba = refl
one_order [] (y ∷ ys) p q ab ba = absurd (contains_nil y (ba y (contains_here y ys y refl)))
one_order (x ∷ xs) [] p q ab ba = absurd (contains_nil x (ab x (contains_here x xs x refl)))
one_order (x ∷ xs) (y ∷ ys) p q ab ba =
    let head : x ≡ y = first (contains_cons y ys x (ab x (contains_here x xs x refl)))
    (contains_cons x xs y (ba y (contains_here y ys y refl))) in
    let ab' = subst (λ (u : List Bool). (t : List Bool) → Contains (x ∷ xs) t → Contains (u ∷ ys) t) (sym head) ab in
    let ba' = subst (λ (u : List Bool). (t : List Bool) → Contains (y ∷ ys) t → Contains (u ∷ xs) t) head ba in
    let tail : xs ≡ ys = one_order xs ys p.1 q.1 (later_in x xs ys p ab') (later_in y ys xs q ba') in
    cc
  where
    first : (y ≡ x) ⊎ Contains ys x → (x ≡ y) ⊎ Contains xs y → x ≡ y
    first (inl e) other = sym e
    first (inr c) (inl e) = e
    first (inr c) (inr c') = absurd (before_one_way x y (first_before x y xs p.0 c') (first_before y x ys q.0 c))

-- a stack has at most one list of feasible traces
pub one_list : (programs : List (List Insn)) (a b : List (List Bool)) → AreFeasibleTraces programs a
    → AreFeasibleTraces programs b → a ≡ b
one_list programs a b p q =
    one_order a b p.order q.order (λ t c. (q.exactly t).1 ((p.exactly t).0 c))
    (λ t c. (p.exactly t).1 ((q.exactly t).0 c))

-- ---- there is one

-- names that compare equal are equal
pub names_exact : (a b : List Bool) → is_eq (slice_cmp bool_cmp a b) ≡ true → a ≡ b
names_exact [] [] h = refl
names_exact (true ∷ a) (true ∷ b) h = ap (λ l. true ∷ l) (names_exact a b h)
names_exact (false ∷ a) (false ∷ b) h = ap (λ l. false ∷ l) (names_exact a b h)
names_exact _ _ h = absurd cc

-- a name is before all names of a list
abbrev IsBeforeAll : List Bool → List (List Bool) → Type 0
IsBeforeAll t us = AllByRecursion (λ u. slice_cmp bool_cmp t u ≡ Less) us

-- a name before another one is before all names that the other is before
pub before_all : (t u : List Bool) (us : List (List Bool)) → slice_cmp bool_cmp t u ≡ Less → IsBeforeAll u us
    → IsBeforeAll t us
before_all t u [] less all = tt
before_all t u (v ∷ us) less all = (names_total.trans t u v less all.0, before_all t u us less all.1)

-- where one name is after another, the other is before it
turned : (t u : List Bool) → slice_cmp bool_cmp t u ≡ Greater → slice_cmp bool_cmp u t ≡ Less
turned t u e = names_total.antisymm u t ∙ ap ordering_reverse e

-- what holds of each of three lists holds of the one that an order chooses
chosen : (P : List (List Bool) → Type 0) (o : Ordering) (a b c : List (List Bool)) → (o ≡ Less → P a)
    → (o ≡ Equal → P b) → (o ≡ Greater → P c) → P (match_ordering o a b c)
chosen P Less a b c x y z = x refl
chosen P Equal a b c x y z = y refl
chosen P Greater a b c x y z = z refl

before_put : (u t : List Bool) (us : List (List Bool)) → slice_cmp bool_cmp u t ≡ Less → IsBeforeAll u us
    → IsBeforeAll u (put_in t us)
before_put u t [] less all = (less, tt)
before_put u t (v ∷ us) less all =
    let rest = before_put u t us less all.1 in
    chosen (IsBeforeAll u) (slice_cmp bool_cmp t v) (t ∷ v ∷ us) (v ∷ us) (v ∷ put_in t us) (λ e. (less, all))
    (λ e. all) (λ e. (all.0, rest))

put_ordered : (t : List Bool) (us : List (List Bool)) → AreInNameOrder us → AreInNameOrder (put_in t us)
unfolding IsStrictlySortedBy
put_ordered t [] order = (tt, tt)
put_ordered t (u ∷ us) order =
    let rest = put_ordered t us order.1 in
    chosen AreInNameOrder (slice_cmp bool_cmp t u) (t ∷ u ∷ us) (u ∷ us) (u ∷ put_in t us)
    (λ less. ((less, before_all t u us less order.0), order))
    (λ same. order)
    (λ more. (before_put u t us (turned t u more) order.0, rest))

-- what is put in is there
put_there : (t : List Bool) (us : List (List Bool)) → Contains (put_in t us) t
put_there t [] = contains_here t [] t refl
put_there t (u ∷ us) =
    let rest = put_there t us in
    chosen (λ vs. Contains vs t) (slice_cmp bool_cmp t u) (t ∷ u ∷ us) (u ∷ us) (u ∷ put_in t us)
    (λ less. contains_here t (u ∷ us) t refl)
    (λ same. contains_here u us t (sym (names_exact t u (ap is_eq same))))
    (λ more. contains_there u (put_in t us) t rest)

-- what was there stays
put_keeps : (t : List Bool) (us : List (List Bool)) (v : List Bool) → Contains us v → Contains (put_in t us) v
put_keeps t [] v c = absurd (contains_nil v c)
put_keeps t (u ∷ us) v c =
    chosen (λ vs. Contains vs v) (slice_cmp bool_cmp t u) (t ∷ u ∷ us) (u ∷ us) (u ∷ put_in t us)
    (λ less. contains_there t (u ∷ us) v c)
    (λ same. c)
    (λ more. elim (contains_cons u us v c) [
      | inl e ↦ contains_here u (put_in t us) v e
      | inr later ↦ contains_there u (put_in t us) v (put_keeps t us v later)
    ])

-- nothing else is put in
put_adds : (t : List Bool) (us : List (List Bool)) (v : List Bool) → Contains (put_in t us) v → (t ≡ v) ⊎ Contains us v
put_adds t [] v c = contains_cons t [] v c
put_adds t (u ∷ us) v c =
    chosen (λ vs. Contains vs v → (t ≡ v) ⊎ Contains (u ∷ us) v) (slice_cmp bool_cmp t u) (t ∷ u ∷ us) (u ∷ us)
    (u ∷ put_in t us)
    (λ less d. contains_cons t (u ∷ us) v d)
    (λ same d. inr d)
    (λ more d. elim (contains_cons u (put_in t us) v d) [
      | inl e ↦ inr (contains_here u us v e)
      | inr later ↦ elim (put_adds t us v later) [ inl e ↦ inl e | inr was ↦ inr (contains_there u us v was) ]
    ])
    c

ordered : (ts : List (List Bool)) → AreInNameOrder (in_name_order ts)
unfolding IsStrictlySortedBy
ordered [] = tt
ordered (t ∷ ts) = put_ordered t (in_name_order ts) (ordered ts)

order_keeps : (ts : List (List Bool)) (v : List Bool) → Contains ts v → Contains (in_name_order ts) v
order_keeps [] v c = absurd (contains_nil v c)
order_keeps (t ∷ ts) v c =
    elim (contains_cons t ts v c) [
      | inl e ↦ subst (λ (u : List Bool). Contains (put_in t (in_name_order ts)) u) e (put_there t (in_name_order ts))
      | inr later ↦ put_keeps t (in_name_order ts) v (order_keeps ts v later)
    ]

order_adds : (ts : List (List Bool)) (v : List Bool) → Contains (in_name_order ts) v → Contains ts v
order_adds [] v c = absurd (contains_nil v c)
order_adds (t ∷ ts) v c =
    elim (put_adds t (in_name_order ts) v c) [
      | inl e ↦ contains_here t ts v e
      | inr later ↦ contains_there t ts v (order_adds ts v later)
    ]

-- the list that is computed is the list of feasible traces
pub feasible_are : (programs : List (List Insn)) → AreFeasibleTraces programs (feasible_traces programs)
unfolding feasible_traces
feasible_are programs = record { order = ordered traces; exactly = λ t. (some t, there t) }
  where
    traces : List (List Bool)
    traces = map (trace_of programs) all_inputs

    some : (t : List Bool) → Contains (in_name_order traces) t → IsFeasible programs t
    some t c =
        let d = map_contains (trace_of programs) all_inputs t (order_adds traces t c) in
        (d.0, (inputs_are d.0).0 d.1, d.2)

    there : (t : List Bool) → IsFeasible programs t → Contains (in_name_order traces) t
    there t d =
        let c = contains_map (trace_of programs) all_inputs d.0 ((inputs_are d.0).1 d.1) in
        order_keeps traces t (subst (λ (u : List Bool). Contains traces u) d.2 c)
