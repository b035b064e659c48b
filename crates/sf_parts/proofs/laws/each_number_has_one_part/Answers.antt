use Rattle.sf_parts.proofs.Common.{arith, refl, sym, ◌∙◌, is_count_by, PartData, form_has, parts_in}
use Rattle.sf_parts.proofs.parts.PartLemmas.{holders}
use Rattle.sf_parts.proofs.WayLemmas.{parts_in-right}
use Rattle.sf_parts.proofs.laws.each_number_has_one_part.Goals as goal

pub returns : goal.returns
returns c = λ word apart t n o.
    sym (is_count_by (holders n) (λ (p : PartData). form_has p.form n) refl (λ p ps. grind arith)
    (parts_in word apart t)) ∙ (parts_in-right word apart t o).once n
