-- What a diagram tells of the runs from a place, by what the diagrams of the places behind tell.
use Rattle.sf_behaviour.proofs.Common.{◌≡◌, ℕ, zero, suc, ◌+◌, ◌<◌, ◌==◌, ◌^◌, Bool, List, [], length, Option, Some, None, refl, sym, ap, subst, ◌∙◌, arith, ◌&&◌, slice_set, if◌then◌else◌, same_Some, Input, Test, passes, Insn, Operand, IsLawfulProgram, Tree, Bits, value, tree_at, KeepsTrees, State, start, return_of, input_by, A, X, IsRegister, next_with, with_register, Known, known_word, held_in, IsInputWord, IsKnowledge, IsLess, divides, source_number, operand_in, source_in, set_progress, effect_progress, IsEffectOf, Tells, IsReplaced, word_value, IsDiagramOf, Effect, Tests, Source, Word, IsSome, IsAt, Progress, goes, returns, stuck, insn_progress, IsChosen, IsTruthOf, Outcome, outcome_from, put, option_map_some, step_is, safe_start, ends_from, value_is, Fits, return_progress, unmet, IsSetTo, run_for}
use Rattle.sf_behaviour.proofs.replacing.ReplacingLemmas.{replaced-value}
use Rattle.sf_behaviour.proofs.VariableLemmas.{with-register-input, start-number, start-there}
use Rattle.sf_behaviour.proofs.KnowledgeLemmas.{fits-set, fits-less, fits-kept, operand-in, source-in, knowledge-less, set-knowledge}

-- ---- runs

-- the run that goes on from a step comes to this value
abbrev pub Ends : List Insn → Input → Progress → ℕ → Type 0
Ends code d (goes met s) v = (m : ℕ) × (o : List Bool × ℕ) × (run_for m code d s ≡ Some o) × (o.1 ≡ v)
Ends code d (returns met n) v = n ≡ v
Ends code d stuck v = ⊥

ends-of : (n : ℕ) (code : List Insn) (d : Input) (p : Progress) (o : List Bool × ℕ)
    → outcome_from (run_for n code d) p ≡ Some o → Ends code d (unmet p) o.1
ends-of n code d (goes met s) o e =
    let rest = option_map_some (put met) (run_for n code d s) o e in
    (n, rest.0, rest.1, ap (λ q. q.1) rest.2)
ends-of n code d (returns met m) o e = cc
ends-of n code d stuck o e = absurd cc

-- the first step of a run that comes to an end
first-step : (n : ℕ) (code : List Insn) (d : Input) (s : State) {i : Insn} {effect : Effect} {o : List Bool × ℕ}
    → IsAt code s.place i → IsEffectOf i effect → run_for n code d s ≡ Some o
    → Ends code d (effect_progress d s effect) o.1
unfolding run_for
first-step zero code d s there is e = absurd cc
first-step (suc n) code d s {i} {o = o} there is e =
    subst (λ (p : Progress). Ends code d p o.1) (is.does d s)
    (ends-of n code d (insn_progress d s i) o (rw (step_is code d s i there) at e))

-- ---- diagrams of places

-- a diagram whose value is that of a run after a first step
pub record Follows (code : List Insn) (place : ℕ) (does : Input → State → Progress) (ts : List Tree) (k : Known)
    (id : ℕ) : Type 0 where
  pub within : id < length ts
  pub small : (bits : Bits) → value (tree_at ts id) bits < 2 ^ 32
  pub values : (bits : Bits) (s : State) (v : ℕ) → s.place ≡ place → Fits ts k bits s
      → Ends code (input_by bits) (does (input_by bits) s) v → value (tree_at ts id) bits ≡ v

pub tells-step : {code : List Insn} {place : ℕ} {i : Insn} {effect : Effect} {ts : List Tree} {k : Known} {id : ℕ}
    → IsAt code place i → IsEffectOf i effect → Follows code place (λ d s. effect_progress d s effect) ts k id
    → Tells code place ts k id
tells-step {code} {i} there is f = record {
  within = f.within;
  small = f.small;
  values = λ bits s n o here fits run. f.values bits s o.1 here fits
      (first-step n code (input_by bits) s (subst (λ (p : ℕ). IsAt code p i) (sym here) there) is run);
}

-- a store that has grown
pub tells-kept : {code : List Insn} {place : ℕ} {ts us : List Tree} {k : Known} {id : ℕ} → KeepsTrees ts us
    → IsKnowledge ts k → Tells code place ts k id → Tells code place us k id
tells-kept {id = id} keeps knows t = record {
  within = omega (arith, keeps.longer, t.within);
  small = λ bits. rw (keeps.same id t.within) (t.small bits);
  values = λ bits s n o here fits e.
      rw (keeps.same id t.within) (t.values bits s n o here (fits-kept bits s keeps knows fits) e);
}

-- where a register is set
pub follows-set : (code : List Insn) (place r : ℕ) (source : Source) {ts us : List Tree} {k l : Known} {next id : ℕ}
    → IsRegister r → IsKnowledge ts k → KeepsTrees ts us → IsSetTo ts k r source l
    → Tells code (place + 1) ts l next → ((bits : Bits) → source_in ts k bits source < 2 ^ 32)
    → IsReplaced r us (λ bits. source_in ts k bits source) next id
    → Follows code place (λ d s. set_progress s r (source_number d s source)) us k id
follows-set code place r source {ts} {us} {k} {l} {next} {id} there knows keeps set behind small h = record {
  within = h.within;
  small = λ bits. rw (is bits) (behind.small (with_register r (number bits) bits));
  values = λ bits s v here fits e. is bits ∙ by bits s v here (fits-kept bits s keeps knows fits)
      (source_number (input_by bits) s source) refl e;
}
  where
    number : Bits → ℕ
    number bits = source_in ts k bits source

    is : (bits : Bits) → value (tree_at us id) bits ≡ value (tree_at ts next) (with_register r (number bits) bits)
    is bits = replaced-value bits keeps behind.within h

    -- the known word has the number
    known : (bits : Bits) (n : ℕ) → n ≡ number bits → (w : Word) → set.word ≡ Some w
        → word_value ts w.bits (with_register r n bits) ≡ n
    known bits n e w at = (set.fixed w at).0.same r n bits there ∙ (set.fixed w at).1.values bits ∙ sym e

    by : (bits : Bits) (s : State) (v : ℕ) → s.place ≡ place → Fits ts k bits s → (from : Option ℕ)
        → source_number (input_by bits) s source ≡ from → Ends code (input_by bits) (set_progress s r from) v
        → value (tree_at ts next) (with_register r (number bits) bits) ≡ v
    by bits s v here fits None from e = absurd e
    by bits s v here fits (Some n) from e =
        let is : n ≡ number bits = source-in ts k bits s source n fits from in
        let low : n < 2 ^ 32 = rw is (small bits) in
        let same : run_for e.0 code (input_by (with_register r n bits)) (next_with s r n) ≡ Some e.1
        = rw (with-register-input r n bits there) e.2 in
        let after : Fits ts l (with_register r n bits) (next_with s r n)
        = subst (λ (j : Known). Fits ts j (with_register r n bits) (next_with s r n)) (sym set.is)
        (fits-set ts k bits s r n set.word knows there low (known bits n is) fits) in
        ap (λ (x : ℕ). value (tree_at ts next) (with_register r x bits)) (sym is)
        ∙ behind.values (with_register r n bits) (next_with s r n) e.0 e.1 (grind (arith, here)) after same ∙ e.3

-- where 0 is returned if the source divides by 0
pub follows-guard : (code : List Insn) (place : ℕ) (source : Source) (does : Input → State → Progress)
    {ts us : List Tree} {k : Known} {id new : ℕ} → KeepsTrees ts us → IsKnowledge ts k → Follows code place does ts k id
    → IsDiagramOf us new (λ bits. if divides source && (held_in ts k bits X == 0) then 0
    else value (tree_at ts id) bits)
    → Follows code place (λ d s. if divides source && (s.x == 0) then returns [] 0 else does d s) us k new
follows-guard code place source does {ts} {k = k} {id = id} keeps knows f h = record {
  within = h.within;
  small = λ bits. grind (arith, h.values bits, f.small bits);
  values = λ bits s v here fits' e.
      let fits : Fits ts k bits s = fits-kept bits s keeps knows fits' in
      grind (arith, h.values bits, fits X s.x refl, f.values bits s v here fits);
}

-- where instructions are skipped
pub follows-skip : {code : List Insn} (place n : ℕ) {ts : List Tree} {k : Known} {id : ℕ}
    → Tells code (place + 1 + n) ts k id
    → Follows code place (λ d s. goes [] (record s { place = s.place + 1 + n })) ts k id
follows-skip place n behind = record {
  within = behind.within;
  small = behind.small;
  values = λ bits s v here fits e. behind.values bits (record s { place = s.place + 1 + n }) e.0 e.1
      (ap (λ (p : ℕ). p + 1 + n) here) fits e.2 ∙ e.3;
}

-- one of two diagrams by a test
pub chosen-diagram : (ts us vs : List Tree) (f : Bits → Bool) (passed one_way other_way id : ℕ) → KeepsTrees ts us
    → one_way < length ts → other_way < length ts → IsTruthOf us passed (λ bits. if f bits then 1 else 0)
    → id < length vs → IsChosen (tree_at us passed) (tree_at us one_way) (tree_at us other_way) (tree_at vs id)
    → IsDiagramOf vs id (λ bits. if f bits then value (tree_at ts one_way) bits else value (tree_at ts other_way) bits)
chosen-diagram ts us vs f passed one_way other_way id k l m truth within h = record {
  within = within;
  values = λ bits. grind (arith, h.values bits, truth.values bits, k.same one_way l, k.same other_way m);
}

-- where A is tested
pub follows-test : (code : List Insn) (place : ℕ) (test : Test) (other : Operand) (t f : ℕ) {ts us : List Tree}
    {k : Known} {one_way other_way id : ℕ} → KeepsTrees ts us → IsKnowledge ts k
    → Tells code (place + 1 + t) ts k one_way → Tells code (place + 1 + f) ts k other_way
    → IsDiagramOf us id (λ bits. if passes test (held_in ts k bits A) (operand_in ts k bits other)
    then value (tree_at ts one_way) bits else value (tree_at ts other_way) bits)
    → Follows code place (λ d s. effect_progress d s (Tests test other t f)) us k id
follows-test code place test other t f {ts} {k = k} keeps knows taken skipped h = record {
  within = h.within;
  small = λ bits. grind (arith, h.values bits, taken.small bits, skipped.small bits);
  values = λ bits s v here fits' e.
      let fits : Fits ts k bits s = fits-kept bits s keeps knows fits' in
      let one = (follows-skip place t taken).values bits s v here fits in
      let two = (follows-skip place f skipped).values bits s v here fits in
      grind (arith, h.values bits, fits A s.a refl, operand-in ts k bits s other fits, one, two);
}

-- where a number is returned
pub follows-return : (code : List Insn) (place : ℕ) (source : Source) {ts us : List Tree} {k : Known} {id : ℕ}
    → KeepsTrees ts us → IsKnowledge ts k → IsDiagramOf us id (λ bits. source_in ts k bits source)
    → ((bits : Bits) → value (tree_at us id) bits < 2 ^ 32)
    → Follows code place (λ d s. return_progress (source_number d s source)) us k id
follows-return code place source {ts} {k = k} keeps knows h small = record {
  within = h.within;
  small = small;
  values = λ bits s v here fits e.
      grind (arith, h.values bits, λ (n : ℕ). source-in ts k bits s source n (fits-kept bits s keeps knows fits));
}

-- ---- what is known at a place

-- where one register more is known, by what is known in the end
pub tells-more-known : (r : ℕ) (w : Word) {ts us : List Tree} {k l : Known} {id new : ℕ}
    → KeepsTrees ts us → IsKnowledge ts l → IsLess k l → length k ≡ 18 → IsRegister r → known_word l r ≡ Some w
    → known_word k r ≡ None → IsReplaced r us (word_value ts w.bits) id new
    → (code : List Insn) (place : ℕ) → Tells code place ts k id → Tells code place us (slice_set k r (Some w)) new
tells-more-known r w {ts} {us} {k} {l} {id} {new} keeps knows less count there has unknown h code place t = record {
  within = h.within;
  small = λ bits. rw (is bits) (t.small (with_register r (number bits) bits));
  values = λ bits s n o here fits e. is bits ∙ t.values (with_register r (number bits) bits) s n o here
      (fits-less ts k bits s r w before there unknown word.word (fits-kept bits s keeps more fits))
      (rw (with-register-input r (number bits) bits there) e);
}
  where
    number : Bits → ℕ
    number bits = word_value ts w.bits bits

    is : (bits : Bits) → value (tree_at us new) bits ≡ value (tree_at ts id) (with_register r (number bits) bits)
    is bits = replaced-value bits keeps t.within h

    word : IsInputWord ts w.bits
    word = knows.each r w has

    before : IsKnowledge ts k
    before = knowledge-less ts k l less count knows

    more : IsKnowledge ts (slice_set k r (Some w))
    more = set-knowledge ts k r (Some w) there before
        (λ v e. subst (λ (u : Word). IsInputWord ts u.bits) (same_Some w v e) word)

-- ---- whole programs

some-is : (o : Outcome) → IsSome o → (p : List Bool × ℕ) × (o ≡ Some p)
some-is None h = absurd cc
some-is (Some p) h = (p, refl)

-- the diagram of place 0, where all registers are 0, has the number that the program returns
pub tells-program : {code : List Insn} {ts : List Tree} {k : Known} {id : ℕ} → IsLawfulProgram code
    → Tells code 0 ts k id → ((r : ℕ) (bits : Bits) → IsRegister r → held_in ts k bits r ≡ 0)
    → IsDiagramOf ts id (λ bits. return_of code (input_by bits))
tells-program {code} {ts} {k} lawful t nought = record {
  within = t.within;
  values = λ bits.
      let d : Input = input_by bits in
      let end = some-is (run_for (length code) code d start)
      (ends_from (length code) code d start lawful (safe_start code lawful.some) (omega arith)) in
      let fits : Fits ts k bits start = λ r n e. start-number r n e ∙ sym (nought r bits (start-there r n e)) in
      t.values bits start (length code) end.0 refl fits end.1 ∙ value_is (length code) code d end.0 lawful end.1;
}
