-- What the code keeps of runs and parts: the ids of nodes in place of trees.
use Rattle.std.specs.Prelude.{ℕ, List, map, reverse}
use Rattle.sf_diagram.specs.Trees.{Tree}
use Rattle.sf_diagram.specs.Stores.{tree_at}
use Rattle.sf_parts.specs.Runs.{RunData}
use Rattle.sf_parts.specs.Parts.{FormData, PartData}
use Rattle.sf_parts.specs.declared.runs.Run.{Run}

-- a part: how its numbers are written, and the id of what comes behind them
pub record StoredPart : Type 0 where
  pub form : FormData
  pub behind : ℕ

-- a part with the tree for which its id stands
abbrev pub part_seen : List Tree → StoredPart → PartData
part_seen ts p = record { form = p.form; behind = tree_at ts p.behind }

-- a run with the tree for which its id stands
abbrev pub run_seen : List Tree → Run → RunData
run_seen ts r = record { first = r.first; last = r.last; behind = tree_at ts r.behind }

-- the same of runs that are listed from the last to the first
abbrev pub runs_seen : List Tree → List Run → List RunData
runs_seen ts runs = map (run_seen ts) (reverse runs)
