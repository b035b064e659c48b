use Rattle.sf_crew.specs.Benches.{owner_view, thief_view}
use Rattle.crew_tests.proofs.stealing.Twos.{whole_of_two, two_kept}
use Rattle.crew_tests.proofs.stealing.get_and_join.Goals as goal

pub returns : goal.returns
returns g c =
    let mine = owner_view c.join-owning.result.0.0 in
    let its = thief_view c.join-owning.result.1.0 in
    whole_of_two mine its _ (two_kept (owner_view c.args.owner) (thief_view c.args.thief) mine its c.requires.two
    c.join-owning.ensures.first.1 c.join-owning.ensures.second.1) c.join.ensures.both
