use Rattle.sf_book.proofs.Common.{rules, ◌≡◌, is_lt, bool_cmp, slice_cmp, ranks_by, answers_always, RegionData, names_total}
use Rattle.sf_book.proofs.regions.put_in_order.Goals as goal

pub returns-clause-sorted : goal.returns-clause-sorted
returns-clause-sorted c =
    c.sort_unstable_by.ensures.sorted (λ x y. is_lt (slice_cmp bool_cmp x.name y.name))
    (ranks_by names_total (λ (r : RegionData). r.name))
    (answers_always _ (λ a r. is_lt r ≡ is_lt (slice_cmp bool_cmp a.0.now.name a.1.0.now.name)) _
    (λ f a r f' q. search rules))
