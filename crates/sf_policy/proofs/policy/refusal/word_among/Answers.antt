use Rattle.sf_policy.proofs.Common.{List, ℕ, Bool, entry_at, get_member, is_at_fault, table_view}
use Rattle.sf_policy.proofs.policy.words.TreeLemmas.{find_now}
use Rattle.sf_policy.proofs.policy.refusal.word_among.Goals as goal

pub returns : goal.returns
returns c =
    let at_fault : List ℕ → Bool =
    λ key. is_at_fault c.args.fault (entry_at c.args.version (get_member key (table_view c.args.table.now))) in
    search (c.first_at_fault.ensures, c.copied.ensures, find_now at_fault c.args.words.now)
