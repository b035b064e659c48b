-- The tables of the tests by which a program compares A with one number after the other: how they are made, and what a
-- look-up in them finds.
use Rattle.sf_check.proofs.Common.{common_steps, ◌≡◌, ◌≢◌, ℕ, zero, suc, ◌+◌, ◌-◌, ◌*◌, ◌<◌, ◌≤◌, ◌⊎◌, List, [], ◌∷◌, ◌++◌, length, set, refl, sym, ap, subst, ◌∙◌, inl, inr, arith, length-set, All, Contains, slice_index, IsNonDecreasing, IsPermutation, IsPartitionPoint, cases_lt, cases_eq, same_Some, slice_get_within, get_or_default, get_or-set_same, get_or-set_other, All-push, Contains-push, Contains-append_left, All-permutation, Contains-permutation, Insn, targets, AllBelow, IsAt, AsksFor, IsEqualTest, AreSkipped, LeadsOn, IsInChain, AreChains, test_key, IsTestKey, AreTestKeys, LeadInside, AreJoined, IsReached}

-- an instruction asks for one number at most
same_number : (i : Insn) (j k r s : ℕ) → AsksFor i j r → AsksFor i k s → j ≡ k
same_number i j k r s a b = let e = a.is in let f = b.is in cc

-- the instruction at a place asks for one number at most
pub one_number : (code : List Insn) (at j k p q : ℕ) → IsEqualTest code at j p → IsEqualTest code at k q → j ≡ k
one_number code at j k p q a b = grind (arith, common_steps, same_Some, same_number)

-- where the instruction at a place is no equal test, no equal test is there
pub none_here : (code : List Insn) (at : ℕ) (i : Insn) → IsAt code at i → ((k skips : ℕ) → AsksFor i k skips → ⊥)
    → (k next : ℕ) → IsEqualTest code at k next → ⊥
none_here code at i here none k next t =
    none k t.skips (subst (λ (j : Insn). AsksFor j k t.skips) (same_Some t.insn i (sym t.here ∙ here)) t.asks)

-- where the instruction at a place is an equal test, that test is there
pub test_here : (code : List Insn) (at number skips : ℕ) (i : Insn) → IsAt code at i → AsksFor i number skips
    → IsEqualTest code at number (at + 1 + skips)
test_here code at number skips i here asks = grind (arith, common_steps)

-- equal tests lead to places of the program where all targets are inside
pub tests_inside : (code : List Insn) → ((at : ℕ) (i : Insn) → IsAt code at i → AllBelow (length code) (targets at i))
    → LeadInside code
tests_inside code inside at k next t =
    let below : AllBelow (length code) (targets at t.insn) = inside at t.insn t.here in
    let there = subst (λ (i : Insn). AllBelow (length code) (targets at i)) t.asks.is below in
    omega (arith, t.leads, there.1.0)

-- ---- skipping tests

-- m tests are skipped, and then n more
pub skipped_more : (code : List Insn) (number m n place middle behind : ℕ) → AreSkipped code number m place middle
    → AreSkipped code number n middle behind → AreSkipped code number (m + n) place behind
skipped_more code number zero n place middle behind some more = grind (arith, common_steps)
skipped_more code number (suc m) n place middle behind some more =
    let e : suc m + n ≡ suc (m + n) = omega arith in
    rw e (some.0, some.1, some.2, some.3, skipped_more code number m n some.1 middle behind some.4 more)

-- m tests are skipped, then one, and then n more
pub skipped_one_more : (code : List Insn) (number m n all k place at next behind : ℕ)
    → AreSkipped code number m place at → k ≢ number → IsEqualTest code at k next
    → AreSkipped code number n next behind → all ≡ m + (1 + n) → AreSkipped code number all place behind
skipped_one_more code number m n all k place at next behind some other test more is =
    grind (arith, common_steps, skipped_more)

-- ---- going on in a chain

-- going on along a chain leads to a place that is reached
walked : (code : List Insn) (chains steps lasts : List ℕ) (number fuel p t : ℕ) → AreChains code chains steps lasts
    → t ≤ p + fuel → IsReached code chains p number t
    → (n : ℕ) × (slice_index steps t ≡ slice_index steps p + n) × (p + n ≤ t) × AreSkipped code number n p t
walked code chains steps lasts number zero p t are fuelled reached = grind (arith, common_steps)
walked code chains steps lasts number (suc fuel) p t are fuelled reached = elim (cases_eq t p) [
  | inl e ↦ (0, rw e (omega arith), omega (arith, reached.from), e)
  | inr ne ↦
      let before : p < t = omega (arith, reached.from) in
      let on = are.on p t before reached.inside reached.same in
      let further : p < on.next = omega (arith, on.test.leads) in
      let rest = walked code chains steps lasts number fuel on.next t are (omega (arith, fuelled)) (record {
        from = on.near;
        inside = reached.inside;
        same = on.same ∙ reached.same;
        others = λ q next from less same test.
            reached.others q next (omega (arith, from, further)) less (same ∙ on.same) test;
      }) in
      let other : on.number ≢ number = λ e. reached.others p on.next (omega arith) before refl
      (subst (λ (k : ℕ). IsEqualTest code p k on.next) e on.test) in (
        suc rest.0,
        omega (arith, rest.1, on.step),
        omega (arith, rest.2, further),
        (on.number, on.next, other, on.test, rest.3),
      )
]

-- what a look-up finds: the tests between are skipped, and their number is a difference of steps
pub record IsSkippedTo (code : List Insn) (steps : List ℕ) (place number behind : ℕ) : Type 0 where
  pub forward : slice_index steps place ≤ slice_index steps behind
  pub skipped : AreSkipped code number (slice_index steps behind - slice_index steps place) place behind
  pub on : place + (slice_index steps behind - slice_index steps place) ≤ behind

pub skipped_to : (code : List Insn) (chains steps lasts : List ℕ) (place number at : ℕ)
    → AreChains code chains steps lasts → IsReached code chains place number at
    → IsSkippedTo code steps place number at
skipped_to code chains steps lasts place number at are reached =
    let walk = walked code chains steps lasts number at place at are (omega arith) reached in
    let e : walk.0 ≡ slice_index steps at - slice_index steps place = omega (arith, walk.1) in
    record {
      forward = omega (arith, walk.1);
      skipped = subst (λ (n : ℕ). AreSkipped code number n place at) e walk.3;
      on = omega (arith, walk.1, walk.2);
    }

-- ---- looking a number up

module _ (code : List Insn) (chains keys : List ℕ) (found place number : ℕ) (tables : AreTestKeys code chains keys)
    (cut : IsPartitionPoint (λ k. k < test_key (slice_index chains place) number place)
    (λ k. test_key (slice_index chains place) number place ≤ k) keys found) where
  -- Where the chain has a later test for the number, a key is found, and that is at most the key of this test.
  least_key : (at next : ℕ) → place ≤ at → slice_index chains at ≡ slice_index chains place
      → IsEqualTest code at number next
      → (found < length keys) × (slice_index keys found ≤ test_key (slice_index chains place) number at)
  least_key at next from same test =
      let there = rw same at (tables.of at number next test) in
      let m = there.0 in
      let key = test_key (slice_index chains place) number at in
      let is : slice_index keys m ≡ key = get_or_default keys m 0 key there.1 ∙ there.2 in
      elim (cases_lt m found) [
        | inl before ↦ absurd (let less = cut.0 m 0 (omega arith) before in omega (arith, less, is))
        | inr after ↦
            let order = tables.ascending found m 0 after there.1 in
            (omega (arith, there.1), omega (arith, order, is))
      ]

  -- where no key of the chain and the number is found, no test before the last place asks for the number
  pub none_by_key : (last : ℕ) → place ≤ last → last < length code
      → slice_index chains last ≡ slice_index chains place
      → (found < length keys → test_key (slice_index chains place) number last ≤ slice_index keys found)
      → IsReached code chains place number last
  none_by_key last from inside same past = record {
    from = from;
    inside = inside;
    same = sym same;
    others = λ q next from before same test.
        let least = least_key q next from same test in
        let far = past least.0 in
        omega (arith, least.1, far);
  }

  -- the key that is found is that of the first test of the chain for the number
  pub found_by_key : (last : ℕ) → length code ≤ 4096 → last < length code → number < 4294967296 → found < length keys
      → slice_index keys found < test_key (slice_index chains place) number last
      → IsReached code chains place number
      (place + (slice_index keys found - test_key (slice_index chains place) number place))
  found_by_key last short end small within before =
      let key = tables.are found 0 within in
      let from = cut.1 found 0 (omega arith) within in
      let inside = slice_get_within code key.at key.test.insn key.test.here in
      let mark : 4294967296 * slice_index chains key.at + key.number
      ≡ 4294967296 * slice_index chains place + number =
      omega (arith, key.is, from, before, inside, short, end) in
      let chain_is : slice_index chains key.at ≡ slice_index chains place =
      omega (arith, mark, key.small, small) in
      let at_is : place + (slice_index keys found - test_key (slice_index chains place) number place) ≡ key.at =
      omega (arith, key.is, mark, from) in
      subst (IsReached code chains place number) (sym at_is) (record {
        from = omega (arith, key.is, mark, from);
        inside = inside;
        same = sym chain_is;
        others = λ q next after less same test.
            let least = least_key q next after same test in
            omega (arith, least.1, key.is, mark);
      })

-- ---- making the chains

-- what is written where the place to which a test leads joins the test's chain
record IsWritten (chains steps lasts chains' steps' lasts' : List ℕ) (place next chain : ℕ) : Type 0 where
  pub chain_is : slice_index chains place ≡ chain
  pub each_chain : length chains' ≡ length chains
  pub each_step : length steps' ≡ length steps
  pub each_last : length lasts' ≡ length lasts
  pub new_chain : slice_index chains' next ≡ chain
  pub new_step : slice_index steps' next ≡ slice_index steps place + 1
  pub new_last : slice_index lasts' chain ≡ next
  pub old_chain : (p : ℕ) → p ≢ next → slice_index chains' p ≡ slice_index chains p
  pub old_step : (p : ℕ) → p ≢ next → slice_index steps' p ≡ slice_index steps p
  pub old_last : (c : ℕ) → c ≢ chain → slice_index lasts' c ≡ slice_index lasts c

-- the chains after that
joined_by : (code : List Insn) (chains steps lasts chains' steps' lasts' : List ℕ) (place next number chain : ℕ)
    → AreJoined code chains steps lasts place → IsEqualTest code place number next → next < length code
    → slice_index chains next ≡ next → IsWritten chains steps lasts chains' steps' lasts' place next chain
    → AreJoined code chains' steps' lasts' (place + 1)
joined_by code chains steps lasts chains' steps' lasts' place next number chain joined test inside single by = record {
  are = record {
    each_chain = by.each_chain ∙ are.each_chain;
    each_step = by.each_step ∙ are.each_step;
    each_last = by.each_last ∙ are.each_last;
    each_place = λ p within. each_place p within (cases_eq p next);
    on = λ p q before within same. (pairs p q before within same).1;
  };
  front = λ p q before within same. (pairs p q before within same).0;
}
  where
    are : AreChains code chains steps lasts
    are = joined.are

    further : place < next
    further = omega (arith, test.leads)

    this : IsInChain code chains steps lasts place
    this = are.each_place place (omega (arith, further, inside))

    begins : chain ≤ place
    begins = omega (arith, this.begins, by.chain_is)

    -- no place behind this one is in its chain
    none_behind : (p : ℕ) → place < p → p < length code → slice_index chains p ≡ chain → ⊥
    none_behind p behind within same =
        let less = joined.front place p behind within (by.chain_is ∙ sym same) in
        omega (arith, less)

    -- no place below the one that is joined is in a chain of its number
    none_single : (p : ℕ) → p < next → slice_index chains p ≡ next → ⊥
    none_single p before same =
        let old = are.each_place p (omega (arith, before, inside)) in
        omega (arith, before, same, old.begins)

    -- a place is in a chain with this last place
    in_chain : (p c l : ℕ) → slice_index chains' p ≡ c → slice_index lasts' c ≡ l → slice_index chains' l ≡ c → c ≤ p
        → slice_index steps' p ≤ p → p ≤ l → l < length code → IsInChain code chains' steps' lasts' p
    in_chain p c l chain_is last same first few before_last within = record {
      begins = omega (arith, chain_is, first);
      few = few;
      before_last = rw (chain_is, last) before_last;
      inside = rw (chain_is, last) within;
      same = rw (chain_is, last) same;
    }

    mine : (p : ℕ) → p ≢ next → p ≤ place → slice_index chains p ≡ chain
        → IsInChain code chains' steps' lasts' p
    mine p ne before e =
        let old = are.each_place p (omega (arith, before, further, inside)) in
        in_chain p chain next (by.old_chain p ne ∙ e) by.new_last by.new_chain (omega (arith, e, old.begins))
        (omega (arith, by.old_step p ne, old.few)) (omega (arith, before, further)) inside

    others : (p : ℕ) → p ≢ next → p < length code → slice_index chains p ≢ chain
        → IsInChain code chains' steps' lasts' p
    others p ne within apart =
        let old = are.each_place p within in
        let c = slice_index chains p in
        let l = slice_index lasts c in
        let not_next : l ≢ next = search arith in
        in_chain p c l (by.old_chain p ne) (by.old_last c apart) (by.old_chain l not_next ∙ old.same) old.begins
        (omega (arith, by.old_step p ne, old.few)) old.before_last old.inside

    itself : IsInChain code chains' steps' lasts' next
    itself =
        in_chain next chain next by.new_chain by.new_last by.new_chain (omega (arith, begins, further))
        (omega (arith, by.new_step, this.few, further)) (omega arith) inside

    each_place : (p : ℕ) → p < length code → (p ≡ next) ⊎ (p ≡ next → ⊥) → IsInChain code chains' steps' lasts' p
    each_place p within (inl e) = subst (IsInChain code chains' steps' lasts') (sym e) itself
    each_place p within (inr ne) = elim (cases_eq (slice_index chains p) chain) [
      | inl e ↦ elim (cases_lt place p) [
        | inl behind ↦ absurd (none_behind p behind within e)
        | inr before ↦ mine p ne before e
      ]
      | inr apart ↦ others p ne within apart
    ]

    -- what was in one chain still is
    kept : (p q r : ℕ) → LeadsOn code chains steps p q → q ≤ r → p ≢ next → p < length code
        → LeadsOn code chains' steps' p r
    kept p q r link far ne within =
        let apart : link.next ≢ next = search arith in
        record {
          number = link.number;
          next = link.next;
          test = link.test;
          near = omega (arith, link.near, far);
          same = by.old_chain link.next apart ∙ link.same ∙ sym (by.old_chain p ne);
          step = omega (arith, by.old_step link.next apart, link.step, by.old_step p ne);
        }

    -- the places before the one that is joined
    to_next : (p : ℕ) → p < next → slice_index chains p ≡ chain → (p < place + 1) × LeadsOn code chains' steps' p next
    to_next p less is = elim (cases_lt place p) [
      | inl behind ↦ absurd (none_behind p behind (omega (arith, less, inside)) is)
      | inr le ↦ elim (cases_eq p place) [
        | inl here ↦ (
          omega (arith, le),
          record {
            number = number;
            next = next;
            test = subst (λ (a : ℕ). IsEqualTest code a number next) (sym here) test;
            near = omega arith;
            same = by.new_chain ∙ sym is ∙ sym (by.old_chain p (λ e. omega (arith, less, e)));
            step = rw (by.new_step, by.old_step p (λ e. omega (arith, less, e)), here) refl;
          },
        )
        | inr ne ↦
            let alike = is ∙ sym by.chain_is in
            let link = are.on p place (omega (arith, le, ne)) (omega (arith, further, inside)) alike in (
              omega (arith, le),
              kept p place next link (omega (arith, further)) (λ e. omega (arith, less, e))
                  (omega (arith, less, inside)),
            )
      ]
    ]

    pairs : (p q : ℕ) → p < q → q < length code → slice_index chains' p ≡ slice_index chains' q
        → (p < place + 1) × LeadsOn code chains' steps' p q
    pairs p q before within same = elim (cases_eq q next) [
      | inl e ↦
          let less : p < next = omega (arith, before, e) in
          let is : slice_index chains p ≡ chain =
          sym (by.old_chain p (λ f. omega (arith, less, f))) ∙ same ∙ ap (slice_index chains') e ∙ by.new_chain in
          subst (λ (r : ℕ). (p < place + 1) × LeadsOn code chains' steps' p r) (sym e) (to_next p less is)
      | inr q_other ↦ elim (cases_eq p next) [
        | inl e ↦ absurd (none_behind q (omega (arith, before, e, further)) within
            (sym (by.old_chain q q_other) ∙ sym same ∙ ap (slice_index chains') e ∙ by.new_chain))
        | inr p_other ↦
            let alike = sym (by.old_chain p p_other) ∙ same ∙ by.old_chain q q_other in
            let link = are.on p q before within alike in
            let less = joined.front p q before within alike in
            (omega (arith, less), kept p q q link (omega arith) p_other (omega (arith, before, within)))
      ]
    ]

-- the place where a test leads joins its chain
pub joined_one : (code : List Insn) (chains steps lasts : List ℕ) (place next number : ℕ)
    → AreJoined code chains steps lasts place → IsEqualTest code place number next → next < length code
    → slice_index chains next ≡ next
    → AreJoined code (set chains next (slice_index chains place)) (set steps next (slice_index steps place + 1))
    (set lasts (slice_index chains place) next) (place + 1)
joined_one code chains steps lasts place next number joined test inside single =
    let are = joined.are in
    let further : place < next = omega (arith, test.leads) in
    let this = are.each_place place (omega (arith, further, inside)) in
    joined_by code chains steps lasts _ _ _ place next number (slice_index chains place) joined test inside single
    (search (arith, length-set, get_or-set_same, get_or-set_other))

-- ---- making the keys

-- the keys once the instructions below a place were read
pub record Gathered (code : List Insn) (chains keys : List ℕ) (place : ℕ) : Type 0 where
  pub keys_are : All (IsTestKey code chains) keys
  pub keyed : (at k next : ℕ) → at < place → IsEqualTest code at k next
      → Contains keys (test_key (slice_index chains at) k at)

-- the next instruction is an equal test: its key is added
pub gathered_test : (code : List Insn) (chains keys : List ℕ) (place number next : ℕ)
    → Gathered code chains keys place → IsEqualTest code place number next → number < 4294967296
    → Gathered code chains (keys ++ test_key (slice_index chains place) number place ∷ []) (place + 1)
gathered_test code chains keys place number next so_far test small =
    let key = test_key (slice_index chains place) number place in
    record {
      keys_are = All-push (IsTestKey code chains) keys key so_far.keys_are
          (record { number = number; at = place; next = next; test = test; small = small; is = refl });
      keyed = λ at k on less t. elim (cases_eq at place) [
        | inl e ↦
            let same = one_number code place k number on next (subst (λ (q : ℕ). IsEqualTest code q k on) e t) test in
            rw (e, same) (Contains-push keys key)
        | inr ne ↦ Contains-append_left keys (key ∷ []) (test_key (slice_index chains at) k at)
            (so_far.keyed at k on (omega arith) t)
      ];
    }

-- the next instruction is another one: no key is added
pub gathered_other : (code : List Insn) (chains keys : List ℕ) (place : ℕ) (i : Insn)
    → Gathered code chains keys place → IsAt code place i → ((k skips : ℕ) → AsksFor i k skips → ⊥)
    → Gathered code chains keys (place + 1)
gathered_other code chains keys place i so_far here none = record {
  keys_are = so_far.keys_are;
  keyed = λ at k next less t. elim (cases_eq at place) [
    | inl e ↦ absurd (none_here code place i here none k next (subst (λ (q : ℕ). IsEqualTest code q k next) e t))
    | inr ne ↦ so_far.keyed at k next (omega arith) t
  ];
}

-- all keys of the program, sorted
pub gathered_all : (code : List Insn) (chains keys sorted : List ℕ) → Gathered code chains keys (length code)
    → IsPermutation keys sorted → IsNonDecreasing sorted → AreTestKeys code chains sorted
gathered_all code chains keys sorted all moved ascending = record {
  ascending = ascending;
  are = All-permutation (IsTestKey code chains) keys sorted moved all.keys_are;
  of = λ at k next t. Contains-permutation keys sorted (test_key (slice_index chains at) k at) moved
      (all.keyed at k next (slice_get_within code at t.insn t.here) t);
}
