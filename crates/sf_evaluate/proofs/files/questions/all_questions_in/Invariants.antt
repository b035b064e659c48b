use Rattle.sf_evaluate.proofs.Common.{◌≡◌, ℕ, List, map, take, view, AreAsked, HasFiles, HasOrigins, Policy}
use Rattle.sf_evaluate.proofs.files.questions.all_questions_in.Given as goal

abbrev pub invariant-loop-path : goal.invariant-loop-path
invariant-loop-path g l = record {
  asked : AreAsked (g.F.Files.holds l.initial.files) (take l.path-index l.paths) l.all.items;
  placed : HasOrigins l.with_origins (g.F.Files.holds l.initial.files) (take l.path-index l.paths) l.all.items
      (map view l.origins.items);
  shown : HasFiles l.with_documents (g.F.Files.holds l.initial.files) Policy (take l.path-index l.paths)
      (map view l.documents.items);
  same : (p : List ℕ) → g.F.Files.holds l.files p ≡ g.F.Files.holds l.initial.files p;
}
