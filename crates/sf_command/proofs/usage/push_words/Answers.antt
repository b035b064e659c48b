use Rattle.sf_command.proofs.Common.{common_steps, arith, map_push, map-append, take_more}
use Rattle.sf_command.proofs.usage.push_words.Goals as goal

pub loop-word-preserved : goal.loop-word-preserved
loop-word-preserved c = grind (arith, common_steps, map_push, map-append, take_more)
