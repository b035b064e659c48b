use Rattle.sf_evaluate.proofs.Common.{◌∙◌, ap, map, list_any, bytes_eq}
use Rattle.sf_evaluate.proofs.words.settings.is_capability.Goals as goal

pub returns : goal.returns
returns c =
    c.is_among.ensures ∙ ap (λ ts. list_any (bytes_eq c.args.text.now) (map (λ t. t.now) ts)) c.as_slice.ensures
