-- What a parse found of an option is what the definitions say of it.
use Rattle.std.proofs.lemmas.Grind.{common_steps}
use Rattle.std.proofs.Common.{◌≡◌, List, [], map, refl, arith}
use Rattle.std.specs.Prelude.{Option, Some, None, option_map, unwrap_or}
use Rattle.std.specs.Borrow.{Bor}
use Rattle.clap.specs.Words.{Text, matched_of, raw_values, rows_of}
use Rattle.clap.specs.declared.parser.matches.Found.{Found}
use Rattle.clap.proofs.WalkLemmas.{raw_values-rows}
use Rattle.sf_command_line.specs.Options.{ArePaths}

-- a function of what was read of an option, or of what stands for none
pub read_or : {X Y : Type 0} (f : X → Y) (o : Option X) (p : Option Y) (x : X) → option_map f o ≡ p
    → f (unwrap_or o x) ≡ unwrap_or p (f x)
read_or f None p x e = rw (← e) refl
read_or f (Some y) p x e = rw (← e) refl

-- the paths that a parse found are those that the argument names
pub paths_found : (f : Found) (id : Text) (r : Option (Bor (List (Bor Text)))) (none : Bor (List (Bor Text)))
    → option_map (λ s. map (λ v. v.now) s.now) r ≡ option_map raw_values (matched_of f id) → none.now ≡ []
    → ArePaths id (rows_of f) (unwrap_or r none).now
paths_found f id r none is empty = grind (arith, common_steps, read_or, raw_values-rows)
