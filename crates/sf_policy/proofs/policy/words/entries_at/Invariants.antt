use Rattle.sf_policy.proofs.Common.{◌≡◌, length, take, drop, get_member, table_view, each_of, entry_at}
use Rattle.sf_policy.proofs.policy.words.TreeLemmas.{with_front, texts_now}
use Rattle.sf_policy.proofs.policy.words.entries_at.Given as goal

abbrev pub invariant-loop-i : goal.invariant-loop-i
invariant-loop-i l =
    (length l.words ≡ 16)
    × (each_of (λ key. entry_at l.version (get_member key (table_view l.table))) (texts_now l.keys)
    ≡ with_front (take l.i l.words) (each_of (λ key. entry_at l.version (get_member key (table_view l.table)))
    (drop l.i (texts_now l.keys))))
