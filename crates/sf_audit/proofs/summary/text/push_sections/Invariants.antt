use Rattle.sf_audit.proofs.Common.{◌≡◌, ◌++◌, drop, string_bytes, section_texts}
use Rattle.sf_audit.proofs.summary.text.push_sections.Given as goal

abbrev pub invariant-loop-place : goal.invariant-loop-place
invariant-loop-place l =
    let p = l.parts in
    string_bytes l.text ++ section_texts p.all p.names.now p.rows.now l.place (drop l.place l.groups)
    ≡ string_bytes l.initial.text ++ section_texts p.all p.names.now p.rows.now 0 l.groups
