use Rattle.sf_rows.proofs.Common.{◌∙◌, value, input_bits, is_named_call, lies_in, rows_of, hidden_number, tree_word}
use Rattle.sf_rows.proofs.others.OtherLemmas.{not-hidden, other-count, other-number, unnamed-on}
use Rattle.sf_rows.proofs.RowLemmas.{unnamed-input}
use Rattle.sf_rows.proofs.laws.each_other_input_lies_in_its_row.Goals as goal

pub returns-clause-one : goal.returns-clause-one
returns-clause-one c = λ s t rest sets d h tree input.
    let bits = input_bits d in
    let over = unnamed-input sets (hidden_number s) t rest c.equal_values_make_equal_trees.ensures h tree in
    c.each_input_lies_in_its_row.ensures.one s rest d over input
    ∙ other-count (is_named_call sets (tree_word d 18) (tree_word d 19)) (value rest bits)
    (hidden_number s) (value t bits)
    (tree.values bits ∙ unnamed-on sets (hidden_number s) t d input)

pub returns-clause-number : goal.returns-clause-number
returns-clause-number c = λ s t rest sets d r h tree input there lies.
    let bits = input_bits d in
    let over = unnamed-input sets (hidden_number s) t rest c.equal_values_make_equal_trees.ensures h tree in
    c.each_input_lies_in_its_row.ensures.number s rest d r over input there lies
    ∙ other-number (is_named_call sets (tree_word d 18) (tree_word d 19)) (value rest bits)
    (hidden_number s) (value t bits)
    (tree.values bits ∙ unnamed-on sets (hidden_number s) t d input)
    (not-hidden (lies_in d) (rows_of s rest) r (value rest bits) (hidden_number s)
    (c.each_input_lies_in_its_row.ensures.one s rest d over input) there lies)
