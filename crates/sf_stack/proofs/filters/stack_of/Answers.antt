use Rattle.sf_stack.proofs.Common.{◌≡◌, length, arith, rules, check_fault}
use Rattle.sf_stack.proofs.filters.FilterLemmas.{mapped_err, stack_refused, few_files}
use Rattle.sf_stack.proofs.filters.stack_of.Goals as goal

pub returns-clause-refused : goal.returns-clause-refused
returns-clause-refused c =
    let few = few_files c.args.filters.now (search rules) (omega arith) in
    mapped_err c.of.result c.map_err.result c.map_err.ensures.cases c.of.ensures.only
    (λ e d is post only.
    let same : d ≡ check_fault (length c.args.filters.now) e = search rules in
    rw same
    (stack_refused _ _ (length c.args.filters.now) c.of.result e few c.in_ok-programs.ensures.accepted is only
    c.of.ensures.no_filter.0 c.of.ensures.too_many.0 c.of.ensures.path_length.0))
