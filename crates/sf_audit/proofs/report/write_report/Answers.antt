use Rattle.sf_audit.proofs.report.write_report.Goals as goal

pub returns-clause-begun : goal.returns-clause-begun
returns-clause-begun g c =
    rw (c.as_bytes.ensures.value, c.in_ok-push_str.ensures.bytes, c.in_ok-text.ensures) at c.write_bytes.ensures.err
