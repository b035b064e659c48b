use Rattle.sf_rows.proofs.Common.{◌∙◌, sym, ◌==◌, ◌&&◌, not, value, input_bits, RowData, is_in_row, rows_of, hidden_number}
use Rattle.sf_rows.proofs.RowLemmas.{count-is, in-is, none-counted, number-of}
use Rattle.sf_rows.proofs.laws.each_input_lies_in_its_row.Goals as goal

pub returns-clause-one : goal.returns-clause-one
returns-clause-one c = λ s t d h input.
    count-is d input (rows_of s t)
    ∙ c.each_input_is_in_one_row.ensures 19 (hidden_number s) 16 18 t (input_bits d) h.begins h.ends

pub returns-clause-number : goal.returns-clause-number
returns-clause-number c = λ s t d r h input there lies.
    let bits = input_bits d in
    number-of bits (value t bits) r (sym (in-is d input r) ∙ lies)
    (none-counted (λ (x : RowData). is_in_row bits x && not (x.number == value t bits)) (rows_of s t) r
    (c.rows_have_the_number.ensures 19 (hidden_number s) 16 18 t bits h.begins h.ends) there)
