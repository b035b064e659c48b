use Rattle.sf_stack.proofs.Common.{map, take, SpellPrograms}
use Rattle.sf_stack.proofs.filters.programs_of.Given as goal

abbrev pub invariant-loop-i : goal.invariant-loop-i
invariant-loop-i l = SpellPrograms (take l.i (map (λ f. f.items) l.filters)) l.programs.items
