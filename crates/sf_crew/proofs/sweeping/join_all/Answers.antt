use Rattle.sf_crew.proofs.Common.{◌≡◌, vec_len, arith}
use Rattle.sf_crew.proofs.sweeping.join_all.Goals as goal

pub returns : goal.returns
returns c =
    let i = c.loop-seat.invariant in
    let none = rw c.in_default.is at c.pop.ensures.cases in
    let left : vec_len c.loop-seat.others ≡ 0 = none.0 in
    (i.seat, i.free, (let joined = i.joined_seats in omega arith), λ more. i.knows (omega arith))
