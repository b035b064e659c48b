use Rattle.sf_audit.proofs.Common.{◌∙◌, rules, string_bytes, tests, YieldsList-from_slice, any_from_yields_List, bytes_eq}
use Rattle.sf_audit.proofs.expecting.ExpectedLemmas.{any_seen}
use Rattle.sf_audit.proofs.expecting.is_accepted.Goals as goal

pub returns : goal.returns
returns c =
    any_from_yields_List (λ s. bytes_eq (string_bytes s) c.args.name.now) _ _ _ c.any.ensures.ran
    (YieldsList-from_slice c.args.accepted.now c.iter.ensures.rest) (λ x b q k. search (rules, tests))
    ∙ any_seen (λ n. bytes_eq n c.args.name.now) string_bytes c.args.accepted.now
