use Rattle.sf_parts.proofs.Common.{[], ℕ, true, arith, refl, is_count_by, is_in_row, rows_under}
use Rattle.sf_parts.proofs.rows.RowLemmas.{hits, rows-right}
use Rattle.sf_parts.proofs.laws.each_input_is_in_one_row.Goals as goal

pub returns : goal.returns
returns c = λ apart hidden n word t bits o h.
    let count = is_count_by (hits bits (λ (m : ℕ). true)) (is_in_row bits) refl (λ r rows. grind arith)
    (rows_under apart hidden n word t []) in
    grind (arith, count, rows-right apart hidden n word t [] bits (λ (m : ℕ). true) o h)
