use Rattle.sf_parts.proofs.Common.{ℕ, Bool, [], ◌==◌, arith, refl, ◌&&◌, not, nat_tests, is_count_by, value, RowData, is_in_row, rows_under}
use Rattle.sf_parts.proofs.rows.RowLemmas.{hits, rows-right}
use Rattle.sf_parts.proofs.laws.rows_have_the_number.Goals as goal

pub returns : goal.returns
returns c = λ apart hidden n word t bits o h.
    let other : ℕ → Bool = λ m. not (m == value t bits) in
    let count = is_count_by (hits bits other) (λ (r : RowData). is_in_row bits r && other r.number) refl
    (λ r rows. grind arith) (rows_under apart hidden n word t []) in
    grind (arith, nat_tests, count, rows-right apart hidden n word t [] bits other o h)
