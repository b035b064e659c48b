use Rattle.sf_crew.proofs.Common.{common_steps, ℕ, ◌<◌, w64, ap, ◌∙◌, arith, trailing_zeros, bit_at-trailing_zeros, View, with_notes, seat_view}
use Rattle.sf_crew.proofs.sweeping.Skips.{skips_more, skips_none, skips_still}
use Rattle.sf_crew.proofs.sweeping.look_at_word.Goals.{then-has_lower_hit, else-has_lower_hit}
use Rattle.sf_crew.proofs.sweeping.look_at_word.Goals as goal

pub loop-left-init : goal.loop-left-init
loop-left-init c = grind (arith, common_steps, skips_none)

pub loop-left-preserved : goal.loop-left-preserved
loop-left-preserved c =
    let i = c.loop-left.invariant.skips in let e = c.has_lower_hit.ensures in let left : ℕ = c.loop-left.left in
    let old : View = seat_view c.loop-left.seat in let new : View = seat_view c.has_lower_hit.new.seat in
    let at : ℕ = trailing_zeros w64 left in
    let low : at < 64 = (bit_at-trailing_zeros w64 left (omega (arith, c.loop-left-test.true))
    c.loop-left.auto.left-fits.fits).0 in
    elim c.if-has_lower_hit.branch [
      | then-has_lower_hit w ↦ rw w.wanted-is (record {
        seat = e.same;
        skips = record {
          same = e.view ∙ ap (λ (v : View). with_notes v new.notes) i.same;
          more = λ p r x. e.more p r (i.more p r x);
          skips = skips_more c.args.word c.args.job c.loop-left.wanted at old.notes new.notes low e.more i.skips
              (e.lower w.if-has_lower_hit.true);
        };
      })
      | else-has_lower_hit w ↦ rw w.wanted-is (record { seat = e.same; skips = search (arith, skips_still) })
    ]
