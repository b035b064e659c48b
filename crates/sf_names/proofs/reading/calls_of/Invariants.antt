use Rattle.sf_names.proofs.Common.{◌≡◌, members_view, table_view, calls_of}
use Rattle.sf_names.proofs.reading.SetLemmas.{with_front}
use Rattle.sf_names.proofs.reading.calls_of.Given as goal

abbrev pub invariant-loop-name : goal.invariant-loop-name
invariant-loop-name l =
    calls_of (table_view l.table) ≡ with_front l.calls.items (calls_of (members_view l.name-iterator))
