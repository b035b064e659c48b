use Rattle.sf_evaluate.proofs.Common.{◌∙◌, bytes_eq, list_any-map, Bor, Text}
use Rattle.sf_evaluate.proofs.words.settings.is_among.Goals as goal

pub returns : goal.returns
returns c = c.has_text.ensures ∙ list_any-map (bytes_eq c.args.text.now) (λ (t : Bor Text). t.now) c.args.texts.now
