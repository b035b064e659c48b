use Rattle.sf_crew.proofs.Common.{length, sym, ap, ◌∙◌, BookData, Counts}
use Rattle.sf_crew.proofs.board.opening.Openings.{opens_at}
use Rattle.sf_crew.proofs.board.Board.new.Goals as goal

pub of_words-requires : goal.of_words-requires
of_words-requires c = opens_at _ c.as_slice.result.now _ _ (c.as_slice.ensures.value ∙ c.in_ok-words.ensures.ok)
    (sym (ap (λ y. length y) c.in_ok-snapshots.ensures.each))
    (ap (λ (n : Counts). n.settled) c.counts-counts.ensures.counts
    ∙ ap (λ (s : BookData). length s.regions) (sym c.of.ensures))
