use Rattle.sf_evaluate.proofs.Common.{◌≡◌, ℕ, List, map, take, view, AreKeptFiles, HasFiles}
use Rattle.sf_evaluate.proofs.files.read_all.Given as goal

abbrev pub invariant-loop-path : goal.invariant-loop-path
invariant-loop-path g l = record {
  kept : AreKeptFiles (g.F.Files.holds l.initial.files) (take l.path-index l.paths) (map (λ f. f.items) l.read.items);
  shown : HasFiles l.with_documents (g.F.Files.holds l.initial.files) l.role (take l.path-index l.paths)
      (map view l.documents.items);
  same : (p : List ℕ) → g.F.Files.holds l.files p ≡ g.F.Files.holds l.initial.files p;
}
