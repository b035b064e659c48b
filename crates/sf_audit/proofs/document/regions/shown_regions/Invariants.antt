use Rattle.sf_audit.proofs.Common.{◌≡◌, ◌+◌, ◌++◌, drop, map, view, region_documents}
use Rattle.sf_audit.proofs.document.regions.shown_regions.Given as goal

abbrev pub invariant-loop-i : goal.invariant-loop-i
invariant-loop-i l = map view l.documents.items ++ region_documents (l.i + 1) (drop l.i l.settled.regions)
    ≡ region_documents 1 l.settled.regions
