use Rattle.sf_names.proofs.Common.{◌≡◌, ◌++◌, take, string_bytes, flat_map, count_after, names_in, names_words}
use Rattle.sf_names.proofs.text.push_names_between.Given as goal

abbrev pub invariant-loop-one : goal.invariant-loop-one
invariant-loop-one l = record {
  text : string_bytes l.text ≡ string_bytes l.initial.text
      ++ names_words l.count (flat_map (names_in l.arch l.first l.last) (take l.one-index l.names));
  told : l.told ≡ count_after l.count (flat_map (names_in l.arch l.first l.last) (take l.one-index l.names));
}
