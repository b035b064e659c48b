use Rattle.sf_names.proofs.Common.{◌≡◌, ◌++◌, take, string_bytes, flat_map, count_after, name_between, names_words}
use Rattle.sf_names.proofs.text.push_calls.Given as goal

abbrev pub invariant-loop-call : goal.invariant-loop-call
invariant-loop-call l = record {
  text : string_bytes l.text ≡ string_bytes l.initial.text
      ++ names_words l.count (flat_map (name_between l.first l.last) (take l.call-index l.calls));
  told : l.told ≡ count_after l.count (flat_map (name_between l.first l.last) (take l.call-index l.calls));
}
