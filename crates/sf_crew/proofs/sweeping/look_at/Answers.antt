use Rattle.sf_crew.proofs.Common.{common_steps, ℕ, ap, ◌∙◌, arith, length-set, View, with_notes, seat_view, all-bits}
use Rattle.sf_crew.proofs.sweeping.Skips.{words_more}
use Rattle.sf_crew.proofs.sweeping.look_at.Goals.{then-to_judge-word-ne0, else-to_judge-word-ne0}
use Rattle.sf_crew.proofs.sweeping.look_at.Goals as goal

pub loop-word-init : goal.loop-word-init
loop-word-init c = grind (arith, common_steps, all-bits)

pub loop-word-preserved : goal.loop-word-preserved
loop-word-preserved c =
    let i = c.loop-word.invariant in let n : ℕ = c.loop-word.word in
    let old : View = seat_view c.loop-word.seat in
    elim c.if-to_judge-word-ne0.branch [
      | then-to_judge-word-ne0 w ↦
          let e = w.look_at_word.ensures in
          let new : View = seat_view w.look_at_word.new.seat in
          rw (w.seat-is, w.wanted-is) (record {
            seat = e.same;
            long = length-set c.loop-word.wanted n w.look_at_word.result ∙ i.long;
            same = e.wanted.same ∙ ap (λ (v : View). with_notes v new.notes) i.same;
            more = λ q r x. e.wanted.more q r (i.more q r x);
            skips = words_more c.loop-word.wanted n c.args.job w.look_at_word.result old.notes new.notes i.long
                (omega arith) e.wanted.more i.skips e.wanted.skips;
          })
      | else-to_judge-word-ne0 w ↦ rw (w.seat-is, w.wanted-is) i
    ]
