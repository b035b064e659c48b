use Rattle.sf_policy.proofs.Common.{common_steps, ◌≡◌, ◌∙◌, false, get_or, Bor, List, [], ℕ, ap, arith, inr, map, refl, rules, line_fits}
use Rattle.sf_policy.proofs.accepted.AcceptedLemmas.{first_misfit, other_word, several_words}
use Rattle.sf_policy.proofs.accepted.read_accepted.Goals.{in_default-via-in-len1+else-is_name_once, in_default-via-else-this-lt2}
use Rattle.sf_policy.proofs.accepted.read_accepted.Goals as goal

no_line : Bor (List ℕ)
no_line = record { ref_ptr = (0, 0); now = [] }

pub returns-in_default-clause-refused : goal.returns-in_default-clause-refused
unfolding no_line
returns-in_default-clause-refused c =
    let line = (get_or c.deref-line-items.result.now c.loop-place.place no_line).now in
    let misfit : line_fits c.args.questions.now line ≡ false = elim c.in_default.branch [
      | in_default-via-in-len1+else-is_name_once w ↦
          other_word c.args.questions.now line c.as_slice.result.now no_line (search rules) (omega arith) (search rules)
      | in_default-via-else-this-lt2 w ↦
          several_words c.args.questions.now line c.as_slice.result.now (search rules) (grind (arith, common_steps))
    ] in
    inr (
      c.loop-place.place,
      refl,
      first_misfit _ _ c.deref-line-items.result.now _ no_line _
          (ap (map (λ l. l.now)) c.deref-line-items.ensures.value ∙ c.in_ok-lines.ensures)
          (omega (arith, c.loop-place-test.true))
          c.loop-place.invariant misfit,
    )
