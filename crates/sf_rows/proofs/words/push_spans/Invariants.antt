use Rattle.sf_rows.proofs.Common.{shadow, Utf8, ◌≡◌, ◌++◌, [], drop, map, string_bytes, codes, joined, span_words}
use Rattle.sf_rows.proofs.words.push_spans.Given as goal

abbrev pub invariant-loop-span : goal.invariant-loop-span
invariant-loop-span l = record {
  words : string_bytes l.text ++ joined l.before (codes ",") (map (span_words l.style) (drop l.span-index l.spans))
      ≡ string_bytes l.initial.text ++ joined [] (codes ",") (map (span_words l.style) l.spans);
  text : shadow (Utf8 l.before);
}
