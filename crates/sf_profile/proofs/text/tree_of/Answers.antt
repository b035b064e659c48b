use Rattle.sf_profile.proofs.Common.{subst, IfOk, IfErr, view, IsTree, HasNoTree}
use Rattle.sf_profile.proofs.text.tree_of.Goals as goal

pub returns-in-Ok-clause-tree : goal.returns-in-Ok-clause-tree
returns-in-Ok-clause-tree c =
    subst (λ t. IfOk c.tree_of_text.result (λ v. IsTree t (view v))) c.in-Ok.ensures.cases.0
    c.tree_of_text.ensures.tree

pub returns-in-Ok-clause-refused : goal.returns-in-Ok-clause-refused
returns-in-Ok-clause-refused c =
    subst (λ t. IfErr c.tree_of_text.result (λ e. HasNoTree t e)) c.in-Ok.ensures.cases.0
    c.tree_of_text.ensures.refused
