use Rattle.sf_profile.proofs.Common.{ap, map, ◌∙◌}
use Rattle.sf_profile.proofs.telling.NoteLemmas.{insert_name}
use Rattle.sf_profile.proofs.telling.push_name.Goals as goal

pub returns : goal.returns
returns c =
    ap (map (λ n. n.now)) c.in_ok-insert.ensures.keys ∙ insert_name c.args.name c.args.names.now.keys
