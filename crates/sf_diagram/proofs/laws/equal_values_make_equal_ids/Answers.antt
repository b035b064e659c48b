use Rattle.sf_diagram.proofs.Common.{tree_at}
use Rattle.sf_diagram.proofs.TreeLemmas.{one-tree}
use Rattle.sf_diagram.proofs.laws.equal_values_make_equal_ids.Goals as goal

pub returns : goal.returns
returns c = λ ts i j h li lj same. h.once i j li lj
    (one-tree (tree_at ts i) (tree_at ts j) (h.ordered i li) (h.reduced i li) (h.ordered j lj) (h.reduced j lj) same)
