use Rattle.sf_audit.proofs.Common.{◌≡◌, drop, string_bytes, broken_text}
use Rattle.sf_audit.proofs.summary.text.push_broken.Given as goal

abbrev pub invariant-loop-i : goal.invariant-loop-i
invariant-loop-i l = record {
  same : string_bytes l.text ≡ string_bytes l.initial.text;
  rest : broken_text (drop l.i l.questions) (drop l.i l.replies) ≡ broken_text l.questions l.replies;
}
