use Rattle.sf_crew.proofs.Common.{ℕ, ◌+◌, List, Some, length-set, sym, ◌∙◌, refl, arith, slots_items}
use Rattle.sf_crew.proofs.board.closing.Closings.{least_start, least_put, least_skip, elem_index}
use Rattle.sf_crew.proofs.board.closing.least_places.Goals.{then-place-regions, else-place-regions}
use Rattle.sf_crew.proofs.board.closing.least_places.Goals as goal

pub loop-q-init : goal.loop-q-init
loop-q-init c = record { long = refl; is = least_start _ _ 256 }

pub loop-q-preserved : goal.loop-q-preserved
loop-q-preserved c =
    let m : ℕ = c.loop-q.q in let words : List ℕ = slots_items c.args.closed.now.words in
    let found = elem_index words (m + 6) c.word-place.result c.word-place.ensures in
    elim c.if-place-regions.branch [
      | then-place-regions w ↦ rw w.least-is (record {
        long = length-set c.loop-q.least m (Some c.word-place.result) ∙ c.loop-q.invariant.long;
        is = least_put words c.args.regions m c.word-place.result c.loop-q.least
            (omega (arith, c.loop-q.invariant.long, c.loop-q-test.true, c.requires.few))
            (sym found) w.if-place-regions.true c.loop-q.invariant.is;
      })
      | else-place-regions w ↦ rw w.least-is ((search (arith, least_skip)))
    ]
