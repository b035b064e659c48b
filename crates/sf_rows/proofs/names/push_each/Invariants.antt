use Rattle.sf_rows.proofs.Common.{shadow, Utf8, ◌≡◌, ◌++◌, drop, map, string_bytes, codes, joined}
use Rattle.sf_rows.proofs.names.push_each.Given as goal

abbrev pub invariant-loop-name : goal.invariant-loop-name
invariant-loop-name l = record {
  words : string_bytes l.text ++ joined l.before (codes ",") (map string_bytes (drop l.name-index l.names))
      ≡ string_bytes l.initial.text ++ joined (codes " # ") (codes ",") (map string_bytes l.names);
  text : shadow (Utf8 l.before);
}
