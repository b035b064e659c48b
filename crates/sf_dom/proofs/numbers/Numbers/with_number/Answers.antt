use Rattle.sf_dom.proofs.Common.{append-nil, arc_slice_items, shared_items}
use Rattle.sf_dom.proofs.AscendingLemmas.{has-more, more-behind}
use Rattle.sf_dom.proofs.numbers.Numbers.with_number.Goals as goal

pub returns-then-as_slice-lt-MERGED : goal.returns-then-as_slice-lt-MERGED
returns-then-as_slice-lt-MERGED c =
    let newer = rw c.as_slice.ensures.value at c.in_ok-newer.ensures.numbers in
    rw (c.in_ok-older.ensures, ← c.self.view_is) (has-more _ _ c.args.number (more-behind
    (shared_items c.self.inside.older) c.self.inside.newer.items c.in_ok-newer.newer.items c.args.number newer))

pub returns : goal.returns
returns c =
    let older = shared_items c.self.inside.older in
    let newer = c.self.inside.newer.items in
    let number = rw c.as_slice.ensures.value at c.in_ok-newer.ensures.numbers in
    let more = more-behind older newer c.in_ok-newer.newer.items c.args.number number in
    let all = rw (c.items_of.ensures, c.as_slice-3.ensures.value) at c.in_ok-older-2.ensures.numbers in
    rw (c.new.ensures.items, append-nil (arc_slice_items c.in_ok-older-2.older), ← c.self.view_is)
    (has-more _ _ c.args.number (λ n. ((λ w. (more n).0 ((all n).0 w)), (λ s. (all n).1 ((more n).1 s)))))
