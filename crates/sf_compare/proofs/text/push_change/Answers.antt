use Rattle.sf_compare.proofs.text.push_change.Goals as goal

pub returns-in_ok-after-in-Some : goal.returns-in_ok-after-in-Some
returns-in_ok-after-in-Some c = rw (
  c.in-Some.is,
  ← c.in_ok-digits-in-Some.ensures,
  ← c.in_ok-before-in-Some.ensures,
  ← c.in_ok-after-in-Some.ensures,
) c.write-in-Some.ensures.bytes
