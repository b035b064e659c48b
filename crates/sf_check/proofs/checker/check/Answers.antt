use Rattle.sf_check.proofs.Common.{common_steps, ◌≡◌, ◌<◌, ℕ, inr, length, get_or, sym, subst, List, arith, Ok, Err, slice_get-get_or, nat_tests, RawInsn, Insn, UnknownCode, BadField, insn_of, EndsInReturn, IsSetAt, IsUnsetAt, successors_inside, LeadInside}
use Rattle.sf_check.proofs.checker.Reading.{read_more, all_spelled, all_fine, read_right, size_is}
use Rattle.sf_check.proofs.equals.EqualLemmas.{tests_inside}
use Rattle.sf_check.proofs.checker.check.Goals as goal

no_raw : RawInsn
no_raw = record { code = 0; jt = 0; jf = 0; k = 0 }

pub returns-in-Err-UnknownCode-clause-refused : goal.returns-in-Err-UnknownCode-clause-refused
unfolding no_raw
returns-in-Err-UnknownCode-clause-refused c =
    let raws = c.args.raws.now in
    let at = c.loop-place.place in
    let read : insn_of (get_or raws at no_raw) ≡ Err UnknownCode = cc in
    inr (
      record { some = omega arith; short = omega arith; each = c.loop-place.invariant.fine },
      get_or raws at no_raw,
      slice_get-get_or raws at no_raw c.loop-place-test.true,
      read,
    )

pub returns-in-Err-BadField-clause-refused : goal.returns-in-Err-BadField-clause-refused
unfolding no_raw
returns-in-Err-BadField-clause-refused c =
    let raws = c.args.raws.now in
    let at = c.loop-place.place in
    let read : insn_of (get_or raws at no_raw) ≡ Err BadField = cc in
    inr (
      record { some = omega arith; short = omega arith; each = c.loop-place.invariant.fine },
      get_or raws at no_raw,
      slice_get-get_or raws at no_raw c.loop-place-test.true,
      read,
    )

pub returns-then-not-leads_inside-clause-refused :
    goal.returns-then-not-leads_inside-clause-refused
unfolding no_raw
returns-then-not-leads_inside-clause-refused c =
    let raws = c.args.raws.now in
    let at = c.loop-place.place in
    let read : insn_of (get_or raws at no_raw) ≡ Ok c.in-Ok.insn = cc in
    inr (
      record { some = omega arith; short = omega arith; each = c.loop-place.invariant.fine },
      get_or raws at no_raw,
      c.in-Ok.insn,
      slice_get-get_or raws at no_raw c.loop-place-test.true,
      read,
      λ inside. let t = c.leads_inside.ensures.1 inside in absurd cc,
    )

pub loop-place-preserved : goal.loop-place-preserved
unfolding no_raw
loop-place-preserved c =
    let raws = c.args.raws.now in
    let at = c.loop-place.place in
    let read : insn_of (get_or raws at no_raw) ≡ Ok c.in-Ok.insn = cc in
    read_more raws c.loop-place.insns.items c.push.new.self.items at
    (get_or raws at no_raw) c.in-Ok.insn c.loop-place.invariant
    (slice_get-get_or raws at no_raw c.loop-place-test.true) read c.in-Ok.ensures.in_range
    (c.leads_inside.ensures.0 c.if-not-leads_inside.false) c.in_ok-push-in-Ok.ensures.items

pub returns-then-not-ends_in_return-clause-refused : goal.returns-then-not-ends_in_return-clause-refused
returns-then-not-ends_in_return-clause-refused c =
    let raws = c.args.raws.now in
    let code = c.loop-place.insns.items in
    let place = c.loop-place.place in
    let some : 0 < length raws = grind (arith, nat_tests) in
    let bad = λ (ends : EndsInReturn code). let t = c.ends_in_return.ensures.1 (rw c.deref.ensures.value ends) in
    let f : ⊥ = absurd cc in f in
    inr (
      all_fine raws code place c.loop-place.invariant (omega arith) (omega arith) some (omega arith),
      code,
      all_spelled raws code place c.loop-place.invariant (omega arith) (omega arith),
      bad,
    )

pub first_unset-requires-clause-inside : goal.first_unset-requires-clause-inside
first_unset-requires-clause-inside c = grind (arith, common_steps, size_is, successors_inside)

pub returns-in-Some-clause-refused : goal.returns-in-Some-clause-refused
returns-in-Some-clause-refused c =
    let raws = c.args.raws.now in
    let code = c.loop-place.insns.items in
    let place = c.loop-place.place in
    let some : 0 < length raws = grind (arith, nat_tests) in
    let ends : EndsInReturn code = search arith in
    let at = c.in-Some.place in
    let found : IsUnsetAt c.deref-2.result.now at × ((j : ℕ) → j < at → IsSetAt c.deref-2.result.now j) =
    rw c.in-Some.is at c.in_ok-place.ensures.some in
    let here : IsUnsetAt code at × ((j : ℕ) → j < at → IsSetAt code j) =
    subst (λ (p : List Insn). IsUnsetAt p at × ((j : ℕ) → j < at → IsSetAt p j)) c.deref-2.ensures.value found in
    inr (
      all_fine raws code place c.loop-place.invariant (omega arith) (omega arith) some (omega arith),
      code,
      all_spelled raws code place c.loop-place.invariant (omega arith) (omega arith),
      ends,
      here.0,
      here.1,
    )

pub invariant_of-result : goal.invariant_of-result
invariant_of-result c = (
  (read_right c.args.raws.now c.loop-place.insns.items c.loop-place.place c.loop-place.invariant (omega arith)
      (omega arith) _ _ (grind (arith, nat_tests)) (omega arith) c.deref.ensures.value
      (c.ends_in_return.ensures.0 c.if-not-ends_in_return.false) c.deref-2.ensures.value
      (rw c.in_default.is at c.in_ok-place.ensures.none)).1,
  rw c.deref-3.ensures.value at c.in_ok-equals.ensures.tables,
)

pub returns-clause-accepted : goal.returns-clause-accepted
returns-clause-accepted c =
    read_right c.args.raws.now c.loop-place.insns.items c.loop-place.place c.loop-place.invariant (omega arith)
    (omega arith) _ _ (grind (arith, nat_tests)) (omega arith) c.deref.ensures.value
    (c.ends_in_return.ensures.0 c.if-not-ends_in_return.false) c.deref-2.ensures.value
    (rw c.in_default.is at c.in_ok-place.ensures.none)

pub of-requires-clause-inside : goal.of-requires-clause-inside
of-requires-clause-inside c =
    let raws = c.args.raws.now in
    let code = c.loop-place.insns.items in
    let size = size_is raws code c.loop-place.place c.loop-place.invariant (omega arith) (omega arith) in
    let inside : LeadInside code =
    tests_inside code (λ at i h. rw size (c.loop-place.invariant.inside at i h)) in
    subst LeadInside (sym c.deref-3.ensures.value) inside
