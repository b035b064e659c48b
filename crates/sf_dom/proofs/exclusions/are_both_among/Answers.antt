use Rattle.sf_dom.proofs.Common.{sym, ◌∙◌, ◌++◌, false≢true, Contains-append_left, Has}
use Rattle.sf_dom.proofs.AscendingLemmas.{among-second, contains-in}
use Rattle.sf_dom.proofs.exclusions.are_both_among.Goals as goal

pub returns-then-are_among : goal.returns-then-are_among
returns-then-are_among c =
    rw (← c.lists.ensures) (among-second c.lists.result.0.now c.lists.result.1.now
    (λ n. Has c.args.others.now n) c.are_among-then-are_among.result (c.are_among.ensures.0 c.if-are_among.true)
    c.are_among-then-are_among.ensures)

pub returns-else-are_among : goal.returns-else-are_among
returns-else-are_among c =
    rw (← c.lists.ensures) (
      (λ t. absurd (false≢true (sym c.if-are_among.false ∙ t))),
      (λ f. absurd (false≢true (sym c.if-are_among.false ∙ c.are_among.ensures.1 (λ n w. f n (contains-in
          (c.lists.result.0.now ++ c.lists.result.1.now) n
          (Contains-append_left c.lists.result.0.now c.lists.result.1.now n w)))))),
    )
