use Rattle.sf_dom.proofs.AscendingLemmas.{place-found}
use Rattle.sf_dom.proofs.numbers.place_in.Goals as goal

pub returns : goal.returns
returns c = rw c.ok.ensures.value (place-found c.args.list.now c.args.number c.binary_search.result c.requires
    c.binary_search.ensures.position)
