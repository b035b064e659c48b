use Rattle.sf_command_line.proofs.Common.{◌∙◌, first_value-rows, found_of}
use Rattle.sf_command_line.proofs.options.given_text.Goals as goal

pub returns : goal.returns
returns c = c.get_str.ensures ∙ first_value-rows (found_of c.args.found.now) c.args.name.now
