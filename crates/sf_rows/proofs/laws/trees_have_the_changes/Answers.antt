use Rattle.sf_rows.proofs.Common.{◌≡◌, ◌∙◌, sym, value, pair_of, input_bits}
use Rattle.sf_rows.proofs.RowLemmas.{asked-number, change-input, has-answer, unasked-number}
use Rattle.sf_rows.proofs.laws.trees_have_the_changes.Goals as goal

pub returns-clause-unasked : goal.returns-clause-unasked
returns-clause-unasked c = λ only old new s t u d a b is also tree input before after unasked.
    let bits = input_bits d in
    let have = c.each_input_has_variables.ensures.variables in
    let was = has-answer old s d a have is input before in
    let now = has-answer new t d b have also input after in
    tree.values bits
    ∙ unasked-number only (value s bits) (value t bits) (is.small bits) (also.small bits)
    (λ asked. unasked (rw (was, now) at asked))

pub returns-clause-asked : goal.returns-clause-asked
returns-clause-asked c = λ only old new s t u d a b is also tree input before after asked.
    let bits = input_bits d in
    let have = c.each_input_has_variables.ensures.variables in
    let was = has-answer old s d a have is input before in
    let now = has-answer new t d b have also input after in
    let found = asked-number only (value s bits) (value t bits) (is.small bits) (also.small bits)
    (rw (← was, ← now) at asked) in
    let number : value u bits ≡ pair_of (value s bits) (value t bits) = tree.values bits ∙ found.1 in
    let both = c.pairs_give_both_back.ensures (value s bits) (value t bits) (is.small bits) (also.small bits)
    found.0 in (
      λ e. both.0 (sym number ∙ e),
      rw (number, both.1) was,
      rw (number, both.2) now,
    )

pub returns-clause-input : goal.returns-clause-input
returns-clause-input c = λ only s t u hs ht tree.
    change-input only s t u c.equal_values_make_equal_trees.ensures hs ht tree
