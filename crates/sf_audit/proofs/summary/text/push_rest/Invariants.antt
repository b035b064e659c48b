use Rattle.sf_audit.proofs.Common.{◌≡◌, ◌++◌, drop, map, string_bytes, next_words}
use Rattle.sf_audit.proofs.summary.text.push_rest.Given as goal

abbrev pub invariant-loop-word : goal.invariant-loop-word
invariant-loop-word l = string_bytes l.text ++ next_words l.left (map (λ t. t.now) (drop l.word-index l.words))
    ≡ string_bytes l.initial.text ++ next_words l.room (map (λ t. t.now) l.words)
