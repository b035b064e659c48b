use Rattle.sf_trace.proofs.Common.{◌≡◌, ◌∙◌, suc, ◌-◌, ◌+◌, length, arith, ◌||◌}
use Rattle.sf_trace.proofs.TraceLemmas.{one_more_run, program_at}
use Rattle.sf_trace.proofs.runs.runs_of.Goals.{then-stood, else-stood}
use Rattle.sf_trace.proofs.runs.runs_of.Goals as goal

pub loop-i-preserved : goal.loop-i-preserved
loop-i-preserved c =
    let programs = c.programs-programs.result.now in
    let n = length programs - (c.loop-i.i + 1) in
    let one_less : length programs - c.loop-i.i ≡ suc n = omega (arith, c.loop-i-test.true) in
    let number : length programs - c.loop-i.i ≡ n + 1 = omega (arith, c.loop-i-test.true) in
    let at = program_at programs n _ _ c.index-programs-number.is (omega (arith, c.loop-i-test.true))
    (omega (arith, c.loop-i-test.true)) in
    let joined : c.if-stood.stood ≡ (c.loop-i.stood || c.is_standing-stands.result) = elim c.if-stood.branch [
      | then-stood b ↦ rw b.if-stood.true (b.stood-is ∙ b.if-stood.true)
      | else-stood b ↦ rw b.if-stood.false b.stood-is
    ] in
    rw joined (one_more_run n _ _ _ programs _ _ _ _ _ _ at c.in_ok-course.ensures.course
    c.is_standing-stands.ensures (rw number at c.in_ok-push.ensures.items) (rw one_less at c.loop-i.invariant))
