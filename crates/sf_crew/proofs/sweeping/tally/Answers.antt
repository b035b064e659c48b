use Rattle.sf_crew.proofs.Common.{◌≡◌, Some, ◌+◌, vec_len, sym, ap, ◌∙◌, arith, rules, All-pop, View, about, seat_view, IsNewSeat, Seat}
use Rattle.sf_crew.proofs.sweeping.FullLemmas.{full_tally}
use Rattle.sf_crew.proofs.sweeping.tally.Goals as goal

pub returns-clause-ok : goal.returns-clause-ok
returns-clause-ok g c =
    let j = c.in-Some-join_all.ensures in let new = c.in_ok-board.ensures in
    let v : View = seat_view c.in-Some-join_all.all in
    let mine : IsNewSeat c.in_ok-board.board c.in-Some.mine =
    (All-pop (λ (s : Seat). IsNewSeat c.in_ok-board.board s) _ _ (Some c.in-Some.mine) c.in-Some.ensures.items
    new.seats.1).1 in
    let one : (seat_view c.in-Some.mine).joined_seats ≡ 1 = ap (λ (y : View). y.joined_seats) mine.1 in
    let many : vec_len c.in_ok-worked.worked ≡ c.args.workers = search rules in
    let joined_seats : v.joined_seats ≡ c.args.workers + 1 =
    omega (arith, one, many, j.2, c.work-mine.ensures.joined_seats) in
    let past = j.3 (omega (arith, many, c.requires.workers.0)) in
    full_tally c.args.settled.now c.args.questions.now (about c.in_ok-board.board) v _ c.close.ensures j.0.1 j.1
    (joined_seats ∙ sym new.about.2) past.0 past.1 new.about.0 new.about.1 c.requires.questions
