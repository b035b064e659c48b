use Rattle.sf_rows.proofs.Common.{ℕ, ◌∙◌, ap, arith, sym, ◌==◌, ◌&&◌, not, if◌then◌else◌, Tree, value, IsOrderedFrom, input_bits, EndsBefore, behind, behind-below, behind-ordered, RowData, is_in_row, IsInputTree, rows_of_call, hidden_number}
use Rattle.sf_rows.proofs.RowLemmas.{count-is, in-is, none-counted, number-of, value-of-call, word-is}
use Rattle.sf_rows.proofs.laws.each_input_of_a_call_lies_in_its_row.Goals as goal

-- what comes behind a call tests words from the third one on
behind-call : (t : Tree) (arch number : ℕ) → IsInputTree t
    → IsOrderedFrom 640 (behind 19 (behind 18 t arch) number) × EndsBefore 1088 (behind 19 (behind 18 t arch) number)
behind-call t arch number h = (
  behind-ordered 19 (behind 18 t arch) number 608 (omega arith) (behind-ordered 18 t arch 576 (omega arith) h.begins),
  behind-below 19 1088 (behind 18 t arch) number (behind-below 18 1088 t arch h.ends),
)

pub returns-clause-one : goal.returns-clause-one
returns-clause-one c = λ s t n k d h input of.
    let bits = input_bits d in
    let u = behind 19 (behind 18 t n.arch) k.number in
    let over = behind-call t n.arch k.number h in
    count-is d input (rows_of_call s t n.arch k.number)
    ∙ c.each_input_is_in_one_row.ensures 19 (hidden_number s) 14 20 u bits over.0 over.1
    ∙ ap (λ m. if m == hidden_number s then 0 else 1)
    (value-of-call t bits n.arch k.number c.parts_lead_on.ensures.value (word-is d 18 input ∙ of.0)
    (word-is d 19 input ∙ of.1))

pub returns-clause-number : goal.returns-clause-number
returns-clause-number c = λ s t n k d r h input of there lies.
    let bits = input_bits d in
    let u = behind 19 (behind 18 t n.arch) k.number in
    let over = behind-call t n.arch k.number h in
    number-of bits (value u bits) r (sym (in-is d input r) ∙ lies)
    (none-counted (λ (x : RowData). is_in_row bits x && not (x.number == value u bits))
    (rows_of_call s t n.arch k.number) r
    (c.rows_have_the_number.ensures 19 (hidden_number s) 14 20 u bits over.0 over.1) there)
    ∙ value-of-call t bits n.arch k.number c.parts_lead_on.ensures.value (word-is d 18 input ∙ of.0)
    (word-is d 19 input ∙ of.1)
