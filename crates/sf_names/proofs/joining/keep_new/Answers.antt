use Rattle.sf_names.proofs.Common.{not, rules, filter_same, CallData, is_there}
use Rattle.sf_names.proofs.joining.keep_new.Goals as goal

pub returns : goal.returns
returns c =
    filter_same _ (λ (x : CallData). not (is_there c.args.calls.now x)) _ (λ x b f k. search rules) _ _
    c.retain.ensures.filtered
