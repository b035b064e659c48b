use Rattle.sf_check.proofs.Common.{◌≡◌, [], ◌∷◌, ◌++◌, length, refl, subst, arith, slice_index, slice_get-get_or, IsNonDecreasingBy-from_sort, test_key}
use Rattle.sf_check.proofs.equals.EqualLemmas.{Gathered, gathered_test, gathered_other, gathered_all, test_here}
use Rattle.sf_check.proofs.equals.keys_of.Goals.{in-Some+in_ok-push, in_default}
use Rattle.sf_check.proofs.equals.keys_of.Goals as goal

pub loop-place-preserved : goal.loop-place-preserved
loop-place-preserved c =
    let code = c.args.insns.now in
    let chains = c.args.chains.now in
    let place = c.loop-place.place in
    let keys = c.loop-place.keys.items in
    let here = slice_get-get_or code place _ c.loop-place-test.true in
    elim c.match-equal_test.branch [
      | in-Some+in_ok-push w ↦
          let number = w.in-Some.test.number in
          let pushed : c.match-equal_test.keys.items ≡ keys ++ test_key (slice_index chains place) number place ∷ [] =
          rw (w.keys-is, w.in_ok-push.ensures.items, w.key_of.ensures) refl in
          rw pushed (gathered_test code chains keys place number _ c.loop-place.invariant
          (test_here code place number w.in-Some.test.skips _ here w.in-Some.ensures) (omega arith))
      | in_default w ↦
          let same : c.match-equal_test.keys.items ≡ keys = rw w.keys-is refl in
          rw same (gathered_other code chains keys place _ c.loop-place.invariant here w.in_default.ensures)
    ]

pub returns : goal.returns
returns c =
    let code = c.args.insns.now in
    let chains = c.args.chains.now in
    let keys = c.loop-place.keys.items in
    let done : c.loop-place.place ≡ length code = omega arith in
    gathered_all code chains keys c.sort_unstable.new.self.items
    (subst (Gathered code chains keys) done c.loop-place.invariant) c.sort_unstable.ensures.permutation
    (IsNonDecreasingBy-from_sort (λ x. x) c.sort_unstable.new.self.items c.sort_unstable.ensures.sorted)
