-- What a comparison of two stacks finds.
use Rattle.std.specs.Prelude.{List}
use Rattle.sf_relations.specs.Common.{Insn, Looser, Tighter, Different, Pretended, Findings}
use Rattle.sf_relations.specs.Changes.{IsFinding}

-- of each relation between the answers of an old stack and of a new one
pub record AreFindingsBetween (old new : List (List Insn)) (f : Findings) : Type 0 where
  pub looser : IsFinding old new Looser f.looser
  pub tighter : IsFinding old new Tighter f.tighter
  pub different : IsFinding old new Different f.different
  pub pretended : IsFinding old new Pretended f.pretended
