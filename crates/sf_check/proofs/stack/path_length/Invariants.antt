use Rattle.sf_check.proofs.Common.{◌≡◌, ◌+◌, ◌*◌, ◌≤◌, ◌<◌, ℕ, List, length, take, slice_get, Some, sum_by, Insn, IsLawfulProgram}
use Rattle.sf_check.proofs.stack.path_length.Given as goal

abbrev pub invariant-loop-program : goal.invariant-loop-program
invariant-loop-program l = record {
  so_far : l.sum ≡ sum_by (λ p. length p + 4) (take l.program-index l.programs);
  small : l.sum ≤ 4100 * l.program-index;
  lawful : (n : ℕ) (p : List Insn) → n < l.program-index → slice_get l.programs n ≡ Some p → IsLawfulProgram p;
}
