use Rattle.sf_crew.proofs.Common.{arith, ◌≡◌, ℕ, List, length, slice_index, sym, ap, ◌∙◌, some, get_elem?, slots_items, LeastIs, questions_of, count_of_regions, about}
use Rattle.sf_crew.proofs.board.closing.Closings.{close_right, elem_index, four_words}
use Rattle.sf_crew.proofs.board.Board.close.Goals as goal

pub returns : goal.returns
returns c =
    let last = c.close_with-closed.ensures.values.2 in let words : List ℕ =
    slots_items c.close_with-closed.result.words in let same : last.0.words ≡ words = last.2 in
    let read : (i x : ℕ) → get_elem? words i ≡ some x → x ≡ slice_index last.0.words i =
    λ i x e. sym (elem_index words i x e) ∙ ap (λ (y : List ℕ). slice_index y i) (sym same) in
    let doubts = four_words last.0.words _ _ _ _ (read 2 _ c.word.ensures) (read 3 _ c.word-2.ensures)
    (read 4 _ c.word-3.ensures) (read 5 _ c.word-4.ensures) in
    let entered : c.word-entered.result ≡ slice_index last.0.words 1 =
    sym (elem_index words 1 _ c.word-entered.ensures) ∙ ap (λ (y : List ℕ). slice_index y 1) (sym same) in
    let least : LeastIs last.0.words (count_of_regions (about c.args.self))
    (length (questions_of (about c.args.self))) c.least_places-least.result = search arith in
    close_right (about c.args.self) last.0 c.args.seat.seat.id c.args.seat.seat.me.0 _ c.args.self.few last.1.0 last.1.1
    c.args.seat.unmarked doubts entered least
