-- Each instruction of a written filter loads a word of an input, and its jumps lead inside the filter. Jumps are short
-- where rules have few comparisons, and it is plain where no rule compares under a mask.
use Rattle.sf_profile.proofs.Common.{common_steps, ◌≡◌, ℕ, ◌+◌, ◌*◌, ◌<◌, ◌≤◌, List, [], ◌∷◌, ◌++◌, Bool, true, false, length, length-append, Option, Some, None, arith, All, if◌then◌else◌, ◌==◌, nat_lt, ◌&&◌, flat_map, All-head, All-tail, Test, CallSet, Argument, Comparing, NotEqual, Less, LessOrEqual, Equal, GreaterOrEqual, Greater, MaskedEqual, Comparison, Call, Reading, Instruction, Load, Mask, Branch, Skip, Return, RuleData, SetRulesData, PlanData, IsUnmasked, is_wide, word_of, order, refuses_newer, equal_code, order_code, masked_code, comparing_code, comparison_code, comparisons_code, return_code, operation_code, call_code, rule_code, rule_at, round_code, places, newer_where, above_rules, body_code, set_code, part_code, form, returned_value_of}
use Rattle.std.specs.Prelude.{◌^◌}
use Rattle.sf_insn.specs.declared.ops.Test.TheVariants as tests

abbrev IsPlainTest : Test → Type 0
IsPlainTest tests.AnyBit = ⊥
IsPlainTest _ = Unit {0}

pub word_small : (argument : Argument) → word_of argument + 1 < 16
word_small argument = grind arith

comparing_size : (comparing : Comparing) (wide : Bool) (word value value_two after : ℕ)
    → length (comparing_code comparing wide word value value_two after) ≤ 6
comparing_size comparing wide word value value_two after = grind arith

comparisons_size : (wide : Bool) (cs : List Comparison) → length (comparisons_code wide cs) ≤ 6 * length cs
comparisons_size wide [] = omega arith
comparisons_size wide (c ∷ cs) = grind (arith, common_steps, length-append, comparing_size, comparisons_size wide cs)

-- a return and a load are behind the comparisons
return_size : (code : List Instruction) (value : ℕ) → length (return_code code value) ≡ length code + 2
return_size code value = length-append code (Return value ∷ Load 0 ∷ [])

-- `few`: rules have at most six comparisons. `plain`: none of them is under a mask.
module _ (few plain : Type 0) where
  -- an instruction behind which so many stand
  abbrev pub IsKept : Instruction → ℕ → Type 0
  IsKept (Load word) n = word < 16
  IsKept (Mask k) n = plain → ⊥
  IsKept (Branch test k on_true on_false) n =
      (on_true + on_false < n) × (few → on_true + on_false < 256) × IsPlainTest test
  IsKept (Skip k) n = k < n
  IsKept (Return k) n = Unit {0}

  -- all of a piece, behind which so many stand
  abbrev pub AreKept : ℕ → List Instruction → Type 0
  AreKept tail [] = Unit {0}
  AreKept tail (i ∷ code) = IsKept i (length code + tail) × AreKept tail code

  abbrev pub IsKeptRule : RuleData → Type 0
  IsKeptRule rule = (few → length rule.comparisons ≤ 6) × (plain → All IsUnmasked rule.comparisons)

  kept_more : (i : Instruction) (n m : ℕ) → n ≤ m → IsKept i n → IsKept i m
  kept_more i n m h l = grind arith

  appended : (xs ys : List Instruction) (n m : ℕ) → n ≤ length ys + m → AreKept n xs → AreKept m ys
      → AreKept m (xs ++ ys)
  appended [] ys n m h p q = q
  appended (x ∷ xs) ys n m h p q = (
    kept_more x (length xs + n) (length (xs ++ ys) + m) (omega (arith, length-append xs ys)) p.0,
    appended xs ys n m h p.1 q,
  )

  each : {X : Type 0} (P : X → Type 0) (f : X → List Instruction) (xs : List X)
      → ((x : X) → P x → AreKept 1 (f x)) → All P xs → AreKept 1 (flat_map f xs)
  each P f [] h all = tt
  each P f (x ∷ xs) h all =
      appended (f x) (flat_map f xs) 1 1 (omega arith) (h x (All-head P x xs all))
      (each P f xs h (All-tail P x xs all))

  where_kept : (b : Bool) (code : List Instruction) → AreKept 1 code → AreKept 1 (if b then code else [])
  where_kept true code h = h
  where_kept false code h = tt

  -- ---- comparisons

  equal_kept : (wide : Bool) (word value on_true on_false after : ℕ) → word + 1 < 16 → on_true + on_false ≤ after
      → (few → after ≤ 200) → AreKept (after + 1) (equal_code wide word value on_true on_false)
  equal_kept wide word value on_true on_false after w t s = grind arith

  order_kept : (wide : Bool) (test : Test) (word value on_true on_false after : ℕ) → IsPlainTest test
      → word + 1 < 16 → on_true + on_false ≤ after → (few → after ≤ 200)
      → AreKept (after + 1) (order_code wide test word value on_true on_false)
  order_kept true test word value on_true on_false after p w t s = search arith
  order_kept false test word value on_true on_false after p w t s = search arith

  masked_kept : (wide : Bool) (word mask value after : ℕ) → word + 1 < 16 → (few → after ≤ 200) → (plain → ⊥)
      → AreKept (after + 1) (masked_code wide word mask value 0 after)
  masked_kept true word mask value after w s m = search arith
  masked_kept false word mask value after w s m = search arith

  comparing_kept : (comparing : Comparing) (wide : Bool) (word value value_two after : ℕ) → word + 1 < 16
      → (few → after ≤ 200) → (plain → comparing ≡ MaskedEqual → ⊥)
      → AreKept (after + 1) (comparing_code comparing wide word value value_two after)
  comparing_kept NotEqual wide word value value_two after w s m = search (arith, equal_kept)
  comparing_kept Less wide word value value_two after w s m = search (arith, order_kept)
  comparing_kept LessOrEqual wide word value value_two after w s m = search (arith, order_kept)
  comparing_kept Equal wide word value value_two after w s m = search (arith, equal_kept)
  comparing_kept GreaterOrEqual wide word value value_two after w s m = search (arith, order_kept)
  comparing_kept Greater wide word value value_two after w s m = search (arith, order_kept)
  comparing_kept MaskedEqual wide word value value_two after w s m = search (arith, masked_kept)

  comparisons_kept : (wide : Bool) (cs : List Comparison) → (few → length cs ≤ 6) → (plain → All IsUnmasked cs)
      → AreKept 2 (comparisons_code wide cs)
  comparisons_kept wide [] s m = tt
  comparisons_kept wide (c ∷ cs) s m =
      let others = comparisons_code wide cs in
      appended (comparison_code wide c (length others + 1)) others (length others + 1 + 1) 2 (omega arith)
      (comparing_kept c.comparing wide (word_of c.argument) c.value c.value_two (length others + 1)
      (word_small c.argument) (λ h. omega (arith, s h, comparisons_size wide cs))
      (λ h. All-head IsUnmasked c cs (m h)))
      (comparisons_kept wide cs (λ h. omega (arith, s h)) (λ h. All-tail IsUnmasked c cs (m h)))

  -- ---- rules

  return_kept : (code : List Instruction) (value : ℕ) → AreKept 2 code → AreKept 1 (return_code code value)
  return_kept code value h =
      appended code (Return value ∷ Load 0 ∷ []) 2 1 (omega arith) h (tt, (omega arith, tt))

  operation_kept : (code : List Instruction) (value number : ℕ) (operation : Option ℕ) → (few → length code ≤ 36)
      → AreKept 2 code → AreKept 1 (operation_code code value number operation)
  operation_kept [] value number None s k = search arith
  operation_kept (i ∷ code) value number None s k =
      search (arith, return_size (i ∷ code) value, return_kept (i ∷ code) value k)
  operation_kept code value number (Some operation) s k =
      search (arith, return_size code value, return_kept code value k)

  rule_kept : (wide : Bool) (rule : RuleData) → IsKeptRule rule → AreKept 1 (rule_code wide rule)
  rule_kept wide rule k =
      let code = comparisons_code wide rule.comparisons in
      each (λ (call : Call). Unit {0}) (call_code code (returned_value_of rule.response)) rule.calls
      (λ call u. operation_kept code (returned_value_of rule.response) call.number call.operation
      (λ h. omega (arith, k.0 h, comparisons_size wide rule.comparisons))
      (comparisons_kept wide rule.comparisons k.0 k.1))
      (λ i d lt. tt)

  round_kept : (reading : Reading) (wide : Bool) (rules : List RuleData) (place : ℕ) → All IsKeptRule rules
      → AreKept 1 (round_code reading wide rules place)
  round_kept reading wide rules place k =
      each IsKeptRule (rule_at reading wide place) rules
      (λ rule r. where_kept (order reading rule == place) (rule_code wide rule) (rule_kept wide rule r)) k

  -- ---- the whole

  newer_kept : (asked : Bool) (rules : List RuleData) → AreKept 1 (newer_where asked rules)
  newer_kept true rules =
      where_kept (nat_lt (above_rules rules) (2 ^ 32)) (Branch tests.GreaterOrEqual (above_rules rules) 0 1
      ∷ Return (0x00050000 + 38) ∷ []) ((omega arith, λ h. omega arith, tt), (tt, tt))
  newer_kept false rules = tt

  body_kept : (plan : PlanData) (part : SetRulesData) → All IsKeptRule part.rules → AreKept 1 (body_code plan part)
  body_kept plan part k =
      let newer = newer_where (plan.newer && refuses_newer plan.default) part.rules in
      let rounds = flat_map (round_code plan.reading (is_wide part.set) part.rules) places in (
        omega arith,
        appended (newer ++ rounds) (Return (returned_value_of plan.default) ∷ []) 1 1 (omega arith)
            (appended newer rounds 1 1 (omega arith)
            (newer_kept (plan.newer && refuses_newer plan.default) part.rules)
            (each (λ (place : ℕ). Unit {0}) (round_code plan.reading (is_wide part.set) part.rules) places
            (λ place u. round_kept plan.reading (is_wide part.set) part.rules place k) (λ i d lt. tt)))
            (tt, tt),
      )

  set_kept : (set : CallSet) (size : ℕ) → AreKept (size + 1) (set_code set size)
  set_kept set size = grind arith

  pub form_kept : (plan : PlanData) → All (λ (part : SetRulesData). All IsKeptRule part.rules) plan.parts
      → AreKept 0 (form plan)
  form_kept plan k =
      appended (flat_map (part_code plan) plan.parts) (Return 0 ∷ []) 1 0 (omega arith)
      (each (λ (part : SetRulesData). All IsKeptRule part.rules) (part_code plan) plan.parts
      (λ part r. appended (set_code part.set (length (body_code plan part))) (body_code plan part)
      (length (body_code plan part) + 1) 1 (omega arith) (set_kept part.set (length (body_code plan part)))
      (body_kept plan part r)) k) (tt, tt)

abbrev pub Leads : Instruction → ℕ → Type 0
Leads i n = IsKept ⊥ ⊥ i n

abbrev pub AllLead : ℕ → List Instruction → Type 0
AllLead tail code = AreKept ⊥ ⊥ tail code

pub form_leads : (plan : PlanData) → AllLead 0 (form plan)
form_leads plan = form_kept ⊥ ⊥ plan (λ k d lt j r less. (λ none. absurd none, λ none. absurd none))
