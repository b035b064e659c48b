use Rattle.sf_dom.proofs.Common.{◌++◌, Contains-permutation, IsPermutation-sym}
use Rattle.sf_dom.proofs.AscendingLemmas.{sorted-rising}
use Rattle.sf_dom.proofs.numbers.merge.Goals as goal

pub returns-clause-rising : goal.returns-clause-rising
returns-clause-rising c = rw c.in_ok-from_vec.ensures (sorted-rising c.sort.new.self.items c.in_ok-sort.ensures.sorted)

pub returns-clause-numbers : goal.returns-clause-numbers
returns-clause-numbers c =
    let both = c.args.older.now ++ c.args.newer.now in
    let all = c.sort.new.self.items in
    let moved = rw (c.in_ok-extend_from_slice.ensures.items, c.in_ok-all.ensures.items) at
    c.in_ok-sort.ensures.permutation in
    rw c.in_ok-from_vec.ensures (λ n. (
      (λ w. Contains-permutation all both n (IsPermutation-sym both all moved) w),
      (λ w. Contains-permutation both all n moved w),
    ))
