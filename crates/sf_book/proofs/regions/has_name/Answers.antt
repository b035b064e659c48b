use Rattle.sf_book.proofs.Common.{arith, ◌≡◌, sym, ◌∙◌, is_at, arc_value, name_cmp}
use Rattle.sf_book.proofs.MapLemmas.{same_name, name_yes}
use Rattle.sf_book.proofs.regions.has_name.Goals as goal

pub returns : goal.returns
returns c =
    let p = arc_value c.args.piece.now in
    let q = c.args.work.now.piece in
    let is : c.is_eq.result ≡ is_at (name_cmp p) q = search arith in
    (λ t. same_name p q (sym is ∙ t), λ e. is ∙ name_yes p q e)
