use Rattle.sf_evaluate.proofs.Common.{◌≡◌, ℕ, List, take, AreNamesRead}
use Rattle.sf_evaluate.proofs.files.naming.read_all_names.Given as goal

abbrev pub invariant-loop-path : goal.invariant-loop-path
invariant-loop-path g l = record {
  named : AreNamesRead (g.F.Files.holds l.initial.files) (take l.path-index l.paths) l.all.items;
  same : (p : List ℕ) → g.F.Files.holds l.files p ≡ g.F.Files.holds l.initial.files p;
}
