use Rattle.sf_rows.proofs.Common.{shadow, Utf8, ◌≡◌, ◌++◌, drop, map, string_bytes, codes, condition_words, conditions_words, further, joined}
use Rattle.sf_rows.proofs.words.push_conditions.Given as goal

abbrev pub invariant-loop-condition : goal.invariant-loop-condition
invariant-loop-condition l = record {
  words : string_bytes l.text
      ++ joined l.before (codes " and ") (map condition_words (further (drop l.condition-index l.conditions)))
      ≡ string_bytes l.initial.text ++ conditions_words l.conditions;
  text : shadow (Utf8 l.before);
}
