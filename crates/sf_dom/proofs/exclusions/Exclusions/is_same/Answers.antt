use Rattle.sf_dom.proofs.AscendingLemmas.{same-set}
use Rattle.sf_dom.proofs.exclusions.Exclusions.is_same.Goals as goal

pub returns-then-is_among : goal.returns-then-is_among
returns-then-is_among c = (
  (λ t. same-set c.args.self.now c.args.other.now (c.is_among.ensures.0 c.if-is_among.true)
      (c.is_among-then-is_among.ensures.0 t)),
  (λ e. c.is_among-then-is_among.ensures.1 (λ n k. rw e k)),
)
