use Rattle.sf_rows.proofs.Common.{◌∙◌, bytes_eq}
use Rattle.sf_rows.proofs.TextLemmas.{any_now}
use Rattle.sf_rows.proofs.calls.is_among.Goals as goal

pub returns : goal.returns
returns c = c.has_text.ensures ∙ any_now (bytes_eq c.args.text.now) c.args.texts.now
